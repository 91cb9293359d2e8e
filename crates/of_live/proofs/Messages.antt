-- Messages, one after the other, and what a turn hears.
use Rattle.std.proofs.Common.{◌≡◌, ◌<◌, ◌≤◌, ◌+◌, ◌-◌, ◌∙◌, ℕ, suc, length, take, drop, List, [], ◌∷◌, ◌++◌, Bool, Some, None, ap, refl, sym, subst, arith, append_assoc, length-take-le}
use Rattle.std.specs.Prelude.{map, false, ◌||◌, ◌&&◌, if◌then◌else◌}
use Rattle.std.{specs.List.flat_map, proofs.lemmas.List.append-nil, proofs.lemmas.List.map-append}
use Rattle.of_switch.specs.Runs.{Report, Run, run, happened, effects_in}
use Rattle.of_switch.specs.{declared.event.Event.Event, declared.event.Event.TheVariants.Chunk, State.State, Steps.lost}
use Rattle.of_serve.specs.Turns.{answer_in, report_effects}
use Rattle.of_live.specs.Live.{Live, begun, coming_events, is_connected, is_lost_first, loss, peers_of, rows_after, time_of, unheard_of}
use Rattle.of_live.specs.Hearing.{Hearing, AreHandled, after_coming, after_message, after_messages, after_hearing, heard_events, most_handled, next_message}
use Rattle.of_live.specs.Working.{Does, HandlesMessages, Hears, LiveWork, asks_by, logged_text}
use Rattle.of_live.{specs.declared.state.Asks.Asks, specs.Inputs.Came, specs.Inputs.is_opened, proofs.Doing.does_more, proofs.Doing.does_none, proofs.Doing.run_then, proofs.Doing.text_then}

-- MESSAGES change only the state, and what waits
pub others_kept : (ms : List (List ℕ)) (l : Live) → after_messages ms l
    ≡ record l { state = (after_messages ms l).state; unheard = (after_messages ms l).unheard; waiting = (after_messages ms l).waiting }
others_kept [] l = refl
others_kept (m ∷ ms) l = others_kept ms (after_message m l)

states : (ms : List (List ℕ)) (l : Live) → (after_messages ms l).state ≡ (run (map Chunk ms) l.state).state
states [] l = refl
states (m ∷ ms) l = states ms (after_message m l)

pub heard_state : (h : Hearing) (l : Live) → (after_hearing h l).state ≡ (run (heard_events h (begun h.came l)) (begun h.came l).state).state
heard_state h l = let b = begun h.came l in
    states h.handled (after_coming h.came l) ∙ sym (ap (λ (r : Run). r.state) (run_then (coming_events h.came b) (map Chunk h.handled) b.state))

-- the first bytes are handled
pub message_handled : (size : ℕ) (l : Live) (s : State) (w : List ℕ) → size ≤ length l.unheard → s ≡ (run (Chunk (take size l.unheard) ∷ []) l.state).state
    → w ≡ l.waiting ++ flat_map answer_in (report_effects (happened (Chunk (take size l.unheard)) l.state).report)
    → record l { state = s; unheard = drop size l.unheard; waiting = w } ≡ after_message (take size l.unheard) l
message_handled size l s w fits e f =
    let h = happened (Chunk (take size l.unheard)) l.state in
    let given = l.waiting ++ flat_map answer_in (report_effects h.report) in
    ap (λ (x : State). record l { state = x; unheard = drop size l.unheard; waiting = w }) e
    ∙ (ap (λ (x : List ℕ). record l { state = h.state; unheard = drop size l.unheard; waiting = x }) f
    ∙ ap (λ (n : ℕ). record l { state = h.state; unheard = drop n l.unheard; waiting = given }) (sym (length-take-le size l.unheard fits)))

one_more : (ms : List (List ℕ)) (m : List ℕ) (l : Live) → after_messages (ms ++ m ∷ []) l ≡ after_message m (after_messages ms l)
one_more [] m l = refl
one_more (k ∷ ms) m l = one_more ms m (after_message k l)

-- so many of them were handled, or are no more
pub record HandledSoFar (most n : ℕ) (keeps : Bool) (l l' : Live) (w w' : LiveWork) : Type 0 where
  pub handled : List (List ℕ)
  pub are : (more : ℕ) (rest : List (List ℕ)) → n + more ≡ most → AreHandled more rest l' → AreHandled most (handled ++ rest) l
  pub live_is : l' ≡ after_messages handled l
  pub does : Does keeps (map Chunk handled) l.state l'.state w w'

pub handled_begun : (most : ℕ) (keeps : Bool) (l : Live) (w : LiveWork) → HandledSoFar most 0 keeps l l w w
handled_begun most keeps l w = record {
  handled = [];
  are = λ more rest e h. subst (λ (k : ℕ). AreHandled k rest l) (omega (arith, e)) h;
  live_is = refl;
  does = does_none keeps l.state w;
}

pub handled_more : (most n : ℕ) (keeps : Bool) (m : List ℕ) (l l1 l2 : Live) (w w1 w2 : LiveWork) → HandledSoFar most n keeps l l1 w w1 → next_message l1 ≡ Some m
    → l2 ≡ after_message m l1 → Does keeps (Chunk m ∷ []) l1.state l2.state w1 w2 → HandledSoFar most (n + 1) keeps l l2 w w2
handled_more most n keeps m l l1 l2 w w1 w2 so next is d = record {
  handled = so.handled ++ m ∷ [];
  are = λ more rest e h. all_are more rest (so.are (suc more) (m ∷ rest) (omega (arith, e)) (next, subst (λ (x : Live). AreHandled more rest x) is h));
  live_is = is ∙ (ap (after_message m) so.live_is ∙ sym (one_more so.handled m l));
  does = subst (λ (es : List Event). Does keeps es l.state l2.state w w2) (sym (map-append Chunk so.handled (m ∷ [])))
      (does_more keeps (map Chunk so.handled) (Chunk m ∷ []) l.state l1.state l2.state w w1 w2 so.does d);
}
  where
    all_are : (more : ℕ) (rest : List (List ℕ)) → AreHandled most (so.handled ++ m ∷ rest) l → AreHandled most ((so.handled ++ m ∷ []) ++ rest) l
    all_are more rest h = subst (λ (ms : List (List ℕ)). AreHandled most ms l) (sym (append_assoc so.handled (m ∷ []) rest)) h

handled_are : (most n more : ℕ) (keeps : Bool) (l l' : Live) (w w' : LiveWork) → HandledSoFar most n keeps l l' w w' → n + more ≡ most → AreHandled more [] l' → HandlesMessages most keeps l l' w w'
handled_are most n more keeps l l' w w' so e h = record {
  handled = so.handled;
  are = subst (λ (ms : List (List ℕ)). AreHandled most ms l) (append-nil so.handled) (so.are more [] e h);
  live_is = so.live_is;
  does = so.does;
}

pub handled_all : (most n : ℕ) (keeps : Bool) (l l' : Live) (w w' : LiveWork) → HandledSoFar most n keeps l l' w w' → n ≡ most → HandlesMessages most keeps l l' w w'
handled_all most n keeps l l' w w' so e = handled_are most n 0 keeps l l' w w' so (omega (arith, e)) refl

pub handled_until : (most n : ℕ) (keeps : Bool) (l l' : Live) (w w' : LiveWork) → HandledSoFar most n keeps l l' w w' → n < most → next_message l' ≡ None → HandlesMessages most keeps l l' w w'
handled_until most n keeps l l' w w' so few none = handled_are most n (suc (most - suc n)) keeps l l' w w' so (omega (arith, few)) none

-- A TURN HEARS what came, and messages
pub begun_as : (another : Bool) (came : Came) (l l1 : Live) → another ≡ is_opened came
    → l1 ≡ (if l.over || (another && is_connected l) then record l { state = lost l.state; unheard = []; waiting = []; over = false } else l) → l1 ≡ begun came l
begun_as another came l l1 e is = rw (sym e) is

pub lost_as : (another : Bool) (came : Came) (keeps : Bool) (l : Live) (text : List ℕ) → another ≡ is_opened came
    → text ≡ logged_text keeps (loss (l.over || (another && is_connected l))) → text ≡ logged_text keeps (loss (is_lost_first came l))
lost_as another came keeps l text e is = rw (sym e) is

hears_begun : (came : Came) (keeps : Bool) (asks : Asks) (l l2 l3 l4 : Live) (w1 w2 w3 : LiveWork) → w1.reports ≡ [] → w1.text ≡ logged_text keeps (loss (is_lost_first came l))
    → asks ≡ asks_by came (begun came l) → Does keeps (coming_events came (begun came l)) (begun came l).state l2.state w1 w2
    → l2 ≡ record (begun came l) { state = l2.state; rows = rows_after came (begun came l); peers = peers_of came (begun came l); unheard = unheard_of came (begun came l); time = time_of came (begun came l) }
    → l3 ≡ record l2 { waiting = l2.waiting ++ flat_map answer_in (effects_in w2.reports) }
    → HandlesMessages (most_handled came) keeps l3 l4 w2 w3 → Hears came keeps asks l l4 w3
hears_begun came keeps asks l l2 l3 l4 w1 w2 w3 none text a d e2 e3 h =
    let b = begun came l in
    let ran = run (coming_events came b) b.state in
    let reports : w2.reports ≡ ran.reports = d.reports_are ∙ ap (λ (rs : List Report). rs ++ ran.reports) none in
    let l3_is : l3 ≡ after_coming came l =
    e3 ∙ (ap (λ (x : Live). record x { waiting = x.waiting ++ flat_map answer_in (effects_in w2.reports) }) e2
    ∙ (ap (λ (s : State). after s w2.reports) d.state_is ∙ ap (λ (rs : List Report). after ran.state rs) reports)) in
    let k : HandlesMessages (most_handled came) keeps (after_coming came l) l4 w2 w3 = subst (λ (x : Live). HandlesMessages (most_handled came) keeps x l4 w2 w3) l3_is h in
    let all : Does keeps (coming_events came b ++ map Chunk k.handled) b.state l4.state w1 w3 =
    does_more keeps (coming_events came b) (map Chunk k.handled) b.state ran.state l4.state w1 w2 w3 (subst (λ (s : State). Does keeps (coming_events came b) b.state s w1 w2) d.state_is d) k.does in
    record {
      handled = k.handled;
      are = k.are;
      live_is = k.live_is;
      asks_are = a;
      reports_are = ap effects_in (all.reports_are ∙ ap (λ (rs : List Report). rs ++ (run (coming_events came b ++ map Chunk k.handled) b.state).reports) none);
      text_is = all.text_is
          ∙ (ap (λ (bs : List ℕ). bs ++ logged_text keeps (coming_events came b ++ map Chunk k.handled)) text
          ∙ sym (text_then keeps (loss (is_lost_first came l)) (coming_events came b ++ map Chunk k.handled)));
    }
  where
    after : State → List Report → Live
    after s rs = let b = begun came l in record {
      state = s;
      rows = rows_after came b;
      peers = peers_of came b;
      unheard = unheard_of came b;
      waiting = b.waiting ++ flat_map answer_in (effects_in rs);
      since = b.since;
      time = time_of came b;
      over = b.over;
    }

pub hears_on : (came : Came) (keeps : Bool) (asks : Asks) (l l1 l2 l3 l4 : Live) (w1 w2 w3 : LiveWork) → l1 ≡ begun came l → w1.reports ≡ []
    → w1.text ≡ logged_text keeps (loss (is_lost_first came l)) → asks ≡ asks_by came l1 → Does keeps (coming_events came l1) l1.state l2.state w1 w2
    → l2 ≡ record l1 { state = l2.state; rows = rows_after came l1; peers = peers_of came l1; unheard = unheard_of came l1; time = time_of came l1 }
    → l3 ≡ record l2 { waiting = l2.waiting ++ flat_map answer_in (effects_in w2.reports) }
    → HandlesMessages (most_handled came) keeps l3 l4 w2 w3 → Hears came keeps asks l l4 w3
hears_on came keeps asks l l1 l2 l3 l4 w1 w2 w3 e none text a d e2 e3 h =
    hears_begun came keeps asks l l2 l3 l4 w1 w2 w3 none text (a ∙ ap (asks_by came) e)
    (subst (λ (x : Live). Does keeps (coming_events came x) x.state l2.state w1 w2) e d)
    (e2 ∙ ap (λ (x : Live). record x { state = l2.state; rows = rows_after came x; peers = peers_of came x; unheard = unheard_of came x; time = time_of came x }) e) e3 h
