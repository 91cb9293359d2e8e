-- A turn, from its parts.
use Rattle.std.proofs.Common.{◌≡◌, ◌∙◌, ℕ, List, [], ◌∷◌, ◌++◌, length, Bool, true, false, Option, Result, Ok, Err, Some, ap, refl, sym, subst, arith, append_assoc}
use Rattle.std.{specs.Prelude.◌==◌, specs.Prelude.if◌then◌else◌, specs.List.flat_map, proofs.lemmas.Bool.Decides.nat_tests}
use Rattle.of_switch.specs.{Runs.effects_in, declared.event.Event.Event}
use Rattle.of_live.specs.Hearing.{Hearing, after_coming, events_of, after_hearing, wanted_of}
use Rattle.of_live.specs.Turns.{LiveTurn, closes, drops, is_closed, logs, rows_text, sent_acts, sent_in, writes}
use Rattle.of_live.specs.Working.{Goes, Hears, Passes, Settles, LiveWork, asks_of, hearing_of, logged, logged_text, live_turn_of}
use Rattle.of_live.specs.{declared.peers.Peer.Peer, declared.state.Asks.Asks, Inputs.Came, Inputs.Fault, Inputs.Time, Inputs.is_fault, declared.network.Wanted.Wanted}
use Rattle.of_live.{specs.Live.Live, specs.Live.begun, specs.Live.peers_of, specs.Acts.Act, specs.Acts.Records, specs.Acts.Told, specs.Acts.Logs, proofs.Messages.others_kept}
use Rattle.of_live.proofs.Passing.{records_as, records_more}
use Rattle.of_replay.specs.declared.halt.Halt.{Halt}
use Rattle.of_replay.specs.declared.halt.Halt.TheVariants.{Bad, Memory, Read, Write}
use Rattle.of_replay.specs.WrittenRows.{row_text}

-- THE ROWS

some_text : (e : Event) (es : List Event) → (length (rows_text (e ∷ es)) == 0) ≡ false
some_text e es = some_bytes (row_text (Some e)) (rows_text es)
  where
    some_bytes : (xs ys : List ℕ) → (length ((xs ++ 10 ∷ []) ++ ys) == 0) ≡ false
    some_bytes [] ys = grind (arith, nat_tests)
    some_bytes (x ∷ xs) ys = grind (arith, nat_tests)

logs_are : (keeps : Bool) (events : List Event) (text : List ℕ) → text ≡ logged_text keeps events → logged text true ≡ logs keeps events
logs_are true [] text e = rw e refl
logs_are true (x ∷ xs) text e = rw (e, some_text x xs) refl
logs_are false [] text e = rw e refl
logs_are false (x ∷ xs) text e = rw e refl

empty_or : (text : List ℕ) (whole : Bool) → (length text ≡ 0 → whole ≡ true) → whole ≡ false → (length text == 0) ≡ false
empty_or [] whole h e = let t : true ≡ false = sym (h refl) ∙ e in absurd_bool t
  where
    absurd_bool : true ≡ false → (length {A = ℕ} [] == 0) ≡ false
    absurd_bool t = cc
empty_or (x ∷ xs) whole h e = grind (arith, nat_tests)

keeps_if : (keeps : Bool) (events : List Event) (text : List ℕ) → text ≡ logged_text keeps events → (length text == 0) ≡ false → (keeps ≡ true) × (text ≡ rows_text events)
keeps_if true events text e some = (refl, e)
keeps_if false events text e some = let t : true ≡ false = sym (ap (λ bs. length bs == 0) e) ∙ some in cc

-- HALTS

pub no_memory : (came : Came) (l : Live) (keeps : Bool) (l' : Live) (a b : Option (List Act)) (some : Bool) → Records a (if some then drops came l else []) b → Passes (Err Memory) keeps came l l' a b
no_memory came l keeps l' a b some r = (some, r)

pub no_log : (came : Came) (keeps : Bool) (asks : Asks) (l l1 : Live) (w : LiveWork) (a b c : Option (List Act)) (some : Bool)
    → Records a (if some then drops came l else []) b → some ≡ true → Hears came keeps asks l l1 w → (length w.text ≡ 0 → false ≡ true) → Records b (logged w.text false) c
    → Passes (Err Write) keeps came l l1 a c
no_log came keeps asks l l1 w a b c some r is h empty log_is =
    let events = events_of (hearing_of came h.handled) l in
    let nonempty = empty_or w.text false empty refl in
    let k = keeps_if keeps events w.text h.text_is nonempty in
    let here : Records a (drops came l) b = subst (λ (s : Bool). Records a (if s then drops came l else []) b) is r in
    let rows : logged w.text false ≡ Logs (rows_text events) false ∷ [] =
    ap (λ (t : Bool). if t then [] else Logs w.text false ∷ []) nonempty ∙ ap (λ bs. Logs bs false ∷ []) k.1 in
    (k.0, (h.handled, h.are, records_more a b c (drops came l) _ here (records_as b c _ _ rows log_is)))

-- ALL GOES OUT

pub passes_on : (came : Came) (keeps : Bool) (asks : Asks) (l l1 l2 : Live) (w : LiveWork) (peers : List Peer) (a b c d e : Option (List Act)) (some : Bool)
    → Records a (if some then drops came l else []) b → some ≡ true → Hears came keeps asks l l1 w → Records b (logged w.text true) c
    → peers ≡ l1.peers → Records c (flat_map (sent_in peers) (effects_in w.reports)) d → Settles asks l1 l2 d e → Passes (Ok tt) keeps came l l2 a e
passes_on came keeps asks l l1 l2 w peers a b c d e some r is h log_is to sent settled =
    let k : Hearing = hearing_of came h.handled in
    let here : Records a (drops came l) b = subst (λ (s : Bool). Records a (if s then drops came l else []) b) is r in
    let rows : Records b (logs keeps (events_of k l)) c = records_as b c _ _ (logs_are keeps (events_of k l) w.text h.text_is) log_is in
    let same_peers : peers ≡ peers_of came (begun came l) =
    to ∙ (ap (λ (x : Live). x.peers) h.live_is ∙ ap (λ (x : Live). x.peers) (others_kept h.handled (after_coming came l))) in
    let frames : Records c (sent_acts k l) d = records_as c d _ _
    (ap (λ ps. flat_map (sent_in ps) (effects_in w.reports)) same_peers ∙ ap (flat_map (sent_in (peers_of came (begun came l)))) h.reports_are) sent in
    let s : Settles (asks_of came l) (after_hearing k l) l2 d e = subst (λ (x : Live). Settles (asks_of came l) x l2 d e) h.live_is (subst (λ (x : Asks). Settles x l1 l2 d e) h.asks_are settled) in
    let t : LiveTurn = live_turn_of came h.handled s.taken s.failed in
    let front = drops came l ++ logs keeps (events_of k l) ++ sent_acts k l in
    let all : Records a (front ++ (writes t l ++ closes (is_closed t l))) e =
    records_more a d e front _ (records_more a c d _ _ (records_more a b c _ _ here rows) frames) s.told_is in
    record {
      handled = h.handled;
      taken = s.taken;
      failed = s.failed;
      hears = h.are;
      fits = s.fits;
      live_is = s.live_is;
      told_is = records_as a e _ _ (sym (append_assoc front (writes t l) (closes (is_closed t l)))) all;
    }

-- A TURN

fault_is : (came : Came) → is_fault came ≡ true → came ≡ Fault
fault_is Fault e = refl
fault_is (Time now) e = cc
fault_is other e = cc

told_as : (w : Wanted) (came : Came) (l : Live) (a b : Option (List Act)) → w ≡ wanted_of l → Records a (Told w came ∷ []) b → Records a (Told (wanted_of l) came ∷ []) b
told_as w came l a b e r = subst (λ (x : Wanted). Records a (Told x came ∷ []) b) e r

pub goes : (result : Result (Unit {0}) Halt) (w : Wanted) (came : Came) (keeps : Bool) (l l' : Live) (a b c : Option (List Act)) → w ≡ wanted_of l → is_fault came ≡ false
    → Records a (Told w came ∷ []) b → Passes result keeps came l l' b c → Goes result keeps l l' a c
goes (Ok u) w came keeps l l' a b c e f r p = record {
  turn = live_turn_of came p.handled p.taken p.failed;
  is = (f, p.hears, p.fits);
  live_is = p.live_is;
  told_is = records_more a b c (Told (wanted_of l) came ∷ []) _ (told_as w came l a b e r) p.told_is;
}
goes (Err (Bad n)) w came keeps l l' a b c e f r p = p
goes (Err Memory) w came keeps l l' a b c e f r p = (came, p.0, records_more a b c (Told (wanted_of l) came ∷ []) _ (told_as w came l a b e r) p.1)
goes (Err Read) w came keeps l l' a b c e f r p = absurd p
goes (Err Write) w came keeps l l' a b c e f r p =
    (p.0, (hearing_of came p.1.0, p.1.1, records_more a b c (Told (wanted_of l) came ∷ []) _ (told_as w came l a b e r) p.1.2))
