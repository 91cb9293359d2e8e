-- Calls, of which some ran out of memory, and the events that the others are.
use Rattle.std.proofs.Common.{◌≡◌, ℕ, Bool, true, false, List, [], ◌∷◌, ◌++◌, map, flat_map, Option, Some, None, Result, Ok, Err, ap, ◌∙◌, sym, refl, subst}
use Rattle.std.specs.{Prelude.⊤, Prelude.IfNone, Option.option_map}
use Rattle.smallvec.specs.SmallVec.{SmallVec}
use Rattle.of_datapath.specs.declared.effect.Effect.{Effect}
use Rattle.of_switch.specs.Steps.{Outcome, gives, connected, fed, next_of, frame_in, moment_in, port_changed, lost}
use Rattle.of_switch.specs.Runs.{behind_effects, drained, Report, Gives, IsRefused, Happened, happened, unless_refusal, Run, run}
use Rattle.of_switch.specs.Calling.{CallAnswer, Made, Connected, Lost, Fed, Next, Frame, Moment, Changed, Loaded, IsMade, AreMade, is_no_memory, found_no_memory, ran_out, others, Deed, Connects, Loses, Sends, IsUnheard, Receives, Waits, Changes, handled_call, calls_of, event_of, report_for, deed_report}
use Rattle.of_switch.specs.{declared.switch_error.SwitchError.SwitchError, declared.switch_error.SwitchError.TheVariants.NoMemory, State.State, Loading.loaded}
use Rattle.of_switch.{specs.Calls.Call, specs.Calls.connect_refusal, specs.Calls.feed_refusal, specs.Calls.port_refusal, proofs.Joining.drained_more, proofs.Joining.drained_none}

-- WHERE MEMORY RAN OUT nothing changed

err_stays : (A : Type 0) (r : Option SwitchError) (does : A → State → Type 0) (s : State) (e : SwitchError) (t : State) → Call r does s (Err e) t → t ≡ s
err_stays A (Some f) does s e t h = h.1
err_stays A None does s e t h = h.1

stays_by : (A : Type 0) (r : Option SwitchError) (does : A → State → Type 0) (s : State) (answer : Result A SwitchError) (t : State) → found_no_memory answer ≡ true → Call r does s answer t → t ≡ s
stays_by A r does s (Ok x) t out h = absurd cc
stays_by A r does s (Err e) t out h = err_stays A r does s e t h

answer_stays : (r : Option SwitchError) (o : Outcome) (s : State) (answer : CallAnswer) (t : State) → found_no_memory answer ≡ true → Call r (λ (effects : SmallVec Effect) (new : State). o ≡ gives effects.items new) s answer t → t ≡ s
answer_stays r o s answer t out h = stays_by (SmallVec Effect) r (λ (effects : SmallVec Effect) (new : State). o ≡ gives effects.items new) s answer t out h

stays : (m : Made) (s t : State) → ran_out m ≡ true → IsMade m s t → t ≡ s
stays (Connected answer) s t out h = answer_stays (connect_refusal s) (connected s) s answer t out h
stays Lost s t out h = absurd cc
stays (Fed chunk answer) s t out h = stays_by (Unit {0}) (feed_refusal s) (λ (u : Unit {0}) (new : State). new ≡ fed chunk s) s answer t out h
stays (Next answer) s t out h =
    stays_by (Option (SmallVec Effect)) None
    (λ (found : Option (SmallVec Effect)) (new : State). (next_of s ≡ option_map (λ (effects : SmallVec Effect). gives effects.items new) found) × IfNone found (new ≡ s)) s answer t out h
stays (Frame port frame answer) s t out h = answer_stays None (frame_in port frame s) s answer t out h
stays (Moment nanos answer) s t out h = answer_stays None (moment_in nanos s) s answer t out h
stays (Changed change answer) s t out h = answer_stays (port_refusal change s) (port_changed change s) s answer t out h
stays (Loaded configuration answer) s t out h = stays_by (Unit {0}) None (λ (u : Unit {0}) (new : State). new ≡ loaded configuration s) s answer t out h

-- with the calls after it
one_more : (m : Made) (calls : List Made) (s u t : State) (b : Bool) → ran_out m ≡ b → IsMade m s u → AreMade (others calls) u t → AreMade (others (m ∷ calls)) s t
one_more m calls s u t true e first rest = rw e (subst (λ (v : State). AreMade (others calls) v t) (stays m s u e first) rest)
one_more m calls s u t false e first rest = rw e (u, first, rest)

pub others_made : (calls : List Made) (s t : State) → AreMade calls s t → AreMade (others calls) s t
others_made [] s t h = h
others_made (m ∷ calls) s t h = one_more m calls s h.0 t (ran_out m) refl h.1 (others_made calls h.0 t h.2)

-- for none of these
abbrev AllLast : List Made → Type 0
AllLast [] = ⊤
AllLast (m ∷ calls) = (ran_out m ≡ false) × AllLast calls

one_last : (m : Made) (calls : List Made) (b : Bool) → ran_out m ≡ b → AllLast (others calls) → AllLast (others (m ∷ calls))
one_last m calls true e rest = rw e rest
one_last m calls false e rest = rw e (e, rest)

others_last : (calls : List Made) → AllLast (others calls)
others_last [] = tt
others_last (m ∷ calls) = one_last m calls (ran_out m) refl (others_last calls)

-- TWO LISTS, one after the other

made-append : (xs ys : List Made) (s t : State) → AreMade (xs ++ ys) s t → (u : State) × AreMade xs s u × AreMade ys u t
made-append [] ys s t h = (s, refl, h)
made-append (x ∷ xs) ys s t h = let k = made-append xs ys h.0 t h.2 in (k.0, (h.0, h.1, k.1), k.2)

last-append : (xs ys : List Made) → AllLast (xs ++ ys) → AllLast xs × AllLast ys
last-append [] ys h = (tt, h)
last-append (x ∷ xs) ys h = let k = last-append xs ys h.1 in ((h.0, k.0), k.1)

-- ONE EVENT

abbrev happens : Report → State → Happened
happens report state = record { report = report; state = state }

is_memory : (e : SwitchError) → e ≡ NoMemory → is_no_memory e ≡ true
is_memory e h = ap is_no_memory h

call_happens : (r : Option SwitchError) (o : Outcome) (s : State) (answer : CallAnswer) (t : State) → Call r (λ (effects : SmallVec Effect) (new : State). o ≡ gives effects.items new) s answer t → found_no_memory answer ≡ false → unless_refusal r s o ≡ happens (report_for answer) t
call_happens (Some e) o s answer t h last =
    let is : answer ≡ Err e = h.0 in
    let same : t ≡ s = h.1 in
    ap (λ (u : State). happens (IsRefused e) u) (sym same) ∙ ap (λ (a : CallAnswer). happens (report_for a) t) (sym is)
call_happens None o s (Ok effects) t h last = ap (λ (x : Outcome). happens (Gives x.effects) x.state) h
call_happens None o s (Err e) t h last = let out = is_memory e h.0 in absurd cc

unheard_happens : (r : Option SwitchError) (s : State) (chunk : List ℕ) (e : SwitchError) (t : State) (o : Outcome) → Call r (λ (u : Unit {0}) (new : State). new ≡ fed chunk s) s (Err e) t → is_no_memory e ≡ false → unless_refusal r s o ≡ happens (IsRefused e) t
unheard_happens (Some f) s chunk e t o h last =
    let is : Err e ≡ Err f = h.0 in
    let same : t ≡ s = h.1 in
    let f_is : f ≡ e = cc in
    ap (λ (u : State). happens (IsRefused f) u) (sym same) ∙ ap (λ (g : SwitchError). happens (IsRefused g) t) f_is
unheard_happens None s chunk e t o h last = let out = is_memory e h.0 in absurd cc

-- messages, one by one
nexts_drain : (given : List (SmallVec Effect)) (s t : State) → AreMade (map handled_call given ++ Next (Ok None) ∷ []) s t → drained s ≡ gives (flat_map (λ (effects : SmallVec Effect). effects.items) given) t
nexts_drain [] s t h =
    let none : next_of s ≡ None = h.1.0 in
    let here : h.0 ≡ s = h.1.1 in
    let last : t ≡ h.0 = h.2 in
    drained_none s none ∙ ap (gives []) (sym (last ∙ here))
nexts_drain (x ∷ given) s t h =
    let some : next_of s ≡ Some (gives x.items h.0) = h.1.0 in
    drained_more s (gives x.items h.0) some ∙ ap (behind_effects x.items) (nexts_drain given h.0 t h.2)

fed_is : (r : Option SwitchError) (chunk : List ℕ) (s t : State) → Call r (λ (u : Unit {0}) (new : State). new ≡ fed chunk s) s (Ok tt) t → (r ≡ None) × (t ≡ fed chunk s)
fed_is (Some e) chunk s t h = let is : Ok tt ≡ Err e = h.0 in absurd cc
fed_is None chunk s t h = (refl, h)

sent_happens : (chunk : List ℕ) (given : List (SmallVec Effect)) (s t : State) → AreMade (calls_of (Sends chunk given)) s t → happened (event_of (Sends chunk given)) s ≡ happens (deed_report (Sends chunk given)) t
sent_happens chunk given s t h =
    let k = fed_is (feed_refusal s) chunk s h.0 h.1 in
    let all : drained (fed chunk s) ≡ gives (flat_map (λ (effects : SmallVec Effect). effects.items) given) t = ap drained (sym k.1) ∙ nexts_drain given h.0 t h.2 in
    ap (λ (r : Option SwitchError). unless_refusal r s (drained (fed chunk s))) k.0 ∙ ap (λ (o : Outcome). happens (Gives o.effects) o.state) all

-- one call alone
alone : (m : Made) (s t : State) → AreMade (m ∷ []) s t → IsMade m s t
alone m s t h = subst (IsMade m s) (sym h.2) h.1

deed_happens : (d : Deed) (s t : State) → AreMade (calls_of d) s t → AllLast (calls_of d) → happened (event_of d) s ≡ happens (deed_report d) t
deed_happens (Connects answer) s t h last = call_happens (connect_refusal s) (connected s) s answer t (alone (Connected answer) s t h) last.0
deed_happens Loses s t h last = let is : t ≡ lost s = alone Lost s t h in ap (happens (Gives [])) (sym is)
deed_happens (Sends chunk given) s t h last = sent_happens chunk given s t h
deed_happens (IsUnheard chunk e) s t h last = unheard_happens (feed_refusal s) s chunk e t (drained (fed chunk s)) (alone (Fed chunk (Err e)) s t h) last.0
deed_happens (Receives port frame answer) s t h last = call_happens None (frame_in port frame s) s answer t (alone (Frame port frame answer) s t h) last.0
deed_happens (Waits nanos answer) s t h last = call_happens None (moment_in nanos s) s answer t (alone (Moment nanos answer) s t h) last.0
deed_happens (Changes change answer) s t h last = call_happens (port_refusal change s) (port_changed change s) s answer t (alone (Changed change answer) s t h) last.0

-- ALL EVENTS

abbrev runs : List Report → State → Run
runs reports state = record { reports = reports; state = state }

deeds_run : (deeds : List Deed) (s t : State) → AreMade (flat_map calls_of deeds) s t → AllLast (flat_map calls_of deeds) → run (map event_of deeds) s ≡ runs (map deed_report deeds) t
deeds_run [] s t h last = ap (runs []) (sym h)
deeds_run (d ∷ deeds) s t h last =
    let k = made-append (calls_of d) (flat_map calls_of deeds) s t h in
    let l = last-append (calls_of d) (flat_map calls_of deeds) last in
    let first : happened (event_of d) s ≡ happens (deed_report d) k.0 = deed_happens d s k.0 k.1 l.0 in
    let rest : run (map event_of deeds) k.0 ≡ runs (map deed_report deeds) t = deeds_run deeds k.0 t k.2 l.1 in
    ap (λ (x : Happened). let r = run (map event_of deeds) x.state in runs (x.report ∷ r.reports) r.state) first
    ∙ ap (λ (r : Run). runs (deed_report d ∷ r.reports) r.state) rest

pub others_run : (calls : List Made) (deeds : List Deed) (s t : State) → AreMade calls s t → others calls ≡ flat_map calls_of deeds → run (map event_of deeds) s ≡ runs (map deed_report deeds) t
others_run calls deeds s t h e =
    deeds_run deeds s t
    (subst (λ (cs : List Made). AreMade cs s t) e (others_made calls s t h))
    (subst AllLast e (others_last calls))
