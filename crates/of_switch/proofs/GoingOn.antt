-- Events that were interrupted and went on.
use Rattle.std.proofs.Common.{◌≡◌, ℕ, ◌+◌, ◌<◌, Bool, true, false, List, [], ◌∷◌, ◌++◌, length, Option, None, inl, inr, ap, ◌∙◌, sym, refl, subst, arith, append_assoc, length-append}
use Rattle.std.proofs.lemmas.List.{append-nil}
use Rattle.of_session.specs.Session.{is_disconnected}
use Rattle.of_datapath.specs.declared.effect.Effect.{Effect}
use Rattle.of_switch.specs.Runs.{behind_effects, drained, chunk_in, Report, Gives, IsRefused, Happened, happened, unless_refusal, run, effects_in, AllGive, IsBrokenOff, IsInterrupted, StopsWithin, RunsAll, rest_of}
use Rattle.of_switch.specs.{declared.event.Event.Event, declared.event.Event.TheVariants.Chunk, declared.switch_error.SwitchError.SwitchError, State.State, Steps.Outcome, Steps.gives, Steps.fed}
use Rattle.of_switch.{specs.Calls.feed_refusal, proofs.Joining.drained_gone}

effects_in-append : (xs ys : List Report) → effects_in (xs ++ ys) ≡ effects_in xs ++ effects_in ys
effects_in-append [] ys = refl
effects_in-append (Gives effects ∷ xs) ys = ap (λ (es : List Effect). effects ++ es) (effects_in-append xs ys) ∙ sym (append_assoc effects (effects_in xs) (effects_in ys))
effects_in-append (IsRefused refusal ∷ xs) ys = effects_in-append xs ys

-- ONE EVENT

stop_by : (event : Event) (s t : State) (more : List Report) (first : List Event) (e : Event) (others : List Event) (more' : List Report) → event ∷ [] ≡ first ++ e ∷ others → more ≡ (run first s).reports ++ more' → IsInterrupted e (run first s).state t more' → IsInterrupted event s t more
stop_by event s t more [] e others more' is reports h =
    let same : e ≡ event = cc in
    let told : more' ≡ more = sym reports in
    subst (λ (x : Event). IsInterrupted x s t more) same (subst (λ (rs : List Report). IsInterrupted e s t rs) told h)
stop_by event s t more (x ∷ first) e others more' is reports h =
    let none : [] ≡ first ++ e ∷ others = cc in
    let long : length (first ++ e ∷ others) ≡ length first + length (e ∷ others) = length-append first (e ∷ others) in
    let short : 0 ≡ length (first ++ e ∷ others) = ap length none in
    absurd (omega (arith, long, short))

stopped : (event : Event) (s t : State) (more : List Report) → StopsWithin (event ∷ []) s t [] more → IsInterrupted event s t more
stopped event s t more h = stop_by event s t more h.first h.event h.others h.more h.events_are h.reports_are h.interrupted

stops : (event : Event) (s t : State) (more : List Report) → IsInterrupted event s t more → StopsWithin (event ∷ []) s t [] more
stops event s t more h = record { first = []; event = event; others = []; events_are = refl; more = more; reports_are = refl; interrupted = h }

-- A CHUNK OF NO BYTES lets what waits go on

nothing_fed : (t : State) → fed [] t ≡ t
nothing_fed t = ap (λ (bytes : List ℕ). record t { connection = record t.connection { pending = bytes } }) (append-nil t.connection.pending)

-- the report of an outcome has its effects
one_report : (effects : List Effect) → effects_in (Gives effects ∷ []) ≡ effects
one_report effects = append-nil effects

abbrev GoesOn : State → Happened → Type 0
GoesOn t h = (h.state ≡ (drained t).state) × (effects_in (h.report ∷ []) ≡ (drained t).effects)

empty_chunk : (t : State) → GoesOn t (happened (Chunk []) t)
empty_chunk t = by (is_disconnected t.connection.phase) refl
  where
    by : (gone : Bool) → is_disconnected t.connection.phase ≡ gone → GoesOn t (happened (Chunk []) t)
    by true e = let none : drained t ≡ gives [] t = drained_gone t e in rw (e, none) (refl, refl)
    by false e =
        let same : chunk_in [] t ≡ drained t = ap drained (nothing_fed t) in
        rw (e, same) (refl, one_report (drained t).effects)

-- a chunk that is not refused
chunk_happens : (bytes : List ℕ) (s : State) (o : Outcome) → feed_refusal s ≡ None → chunk_in bytes s ≡ o → happened (Chunk bytes) s ≡ record { report = Gives o.effects; state = o.state }
chunk_happens bytes s o taken is = ap (λ (r : Option SwitchError). unless_refusal r s (chunk_in bytes s)) taken ∙ ap (λ (x : Outcome). record { report = Gives x.effects; state = x.state }) is

-- GOING ON

abbrev Whole : Event → State → State → List Report → Type 0
Whole event s u reports = (u ≡ (run (event ∷ []) s).state) × (effects_in reports ≡ effects_in (run (event ∷ []) s).reports)

broken_whole : (event : Event) (s t u : State) (more last : List Report) → IsBrokenOff event s t more → RunsAll (Chunk [] ∷ []) t u [] last → Whole event s u (more ++ last)
broken_whole event s t u more last b ran =
    let on = empty_chunk t in
    let o = behind_effects (effects_in more) (drained t) in
    let here : happened event s ≡ record { report = Gives o.effects; state = o.state } = ap (λ (e : Event). happened e s) b.chunk ∙ chunk_happens b.bytes s o b.taken b.left in
    let last_is : effects_in last ≡ (drained t).effects = ap effects_in ran.reports_are ∙ on.1 in
    let given : effects_in (more ++ last) ≡ o.effects = effects_in-append more last ∙ ap (λ (es : List Effect). effects_in more ++ es) last_is in (
      ran.state ∙ (on.0 ∙ ap (λ (h : Happened). h.state) (sym here)),
      given ∙ (sym (one_report o.effects) ∙ ap (λ (h : Happened). effects_in (h.report ∷ [])) (sym here)),
    )

-- what is left of a chunk that was broken off
rest_is : (event : Event) (more : List Report) → 0 < length more → rest_of event more ≡ Chunk []
rest_is event [] some = absurd (omega (arith, some))
rest_is event (r ∷ more) some = refl

pub whole : (event : Event) (s t u : State) (more last : List Report) → StopsWithin (event ∷ []) s t [] more → RunsAll (rest_of event more ∷ []) t u [] last → Whole event s u (more ++ last)
whole event s t u more last stop ran = by (stopped event s t more stop)
  where
    by : IsInterrupted event s t more → Whole event s u (more ++ last)
    by (inl none) =
        let again : RunsAll (event ∷ []) s u [] last = subst (λ (x : State). RunsAll (event ∷ []) x u [] last) none.0 (subst (λ (rs : List Report). RunsAll (rest_of event rs ∷ []) t u [] last) none.1 ran) in
        (again.state, ap (λ (rs : List Report). effects_in (rs ++ last)) none.1 ∙ ap effects_in again.reports_are)
    by (inr b) = broken_whole event s t u more last b (subst (λ (e : Event). RunsAll (e ∷ []) t u [] last) (rest_is event more b.reported.0) ran)

all_give_both : (xs ys : List Report) → AllGive xs → AllGive ys → AllGive (xs ++ ys)
all_give_both [] ys x y = y
all_give_both (Gives effects ∷ xs) ys x y = all_give_both xs ys x y
all_give_both (IsRefused refusal ∷ xs) ys x y = absurd x

broken_again : (event : Event) (s t u : State) (more last : List Report) → IsBrokenOff event s t more → IsInterrupted (Chunk []) t u last → IsBrokenOff event s u (more ++ last)
broken_again event s t u more last b (inl none) =
    subst (λ (x : State). IsBrokenOff event s x (more ++ last)) (sym none.0)
    (subst (λ (rs : List Report). IsBrokenOff event s t (more ++ rs)) (sym none.1)
    (subst (λ (rs : List Report). IsBrokenOff event s t rs) (sym (append-nil more)) b))
broken_again event s t u more last b (inr d) =
    let nothing : d.bytes ≡ [] = let is = d.chunk in cc in
    let rest : drained t ≡ behind_effects (effects_in last) (drained u) = sym (ap drained (nothing_fed t)) ∙ (ap (λ (bytes : List ℕ). chunk_in bytes t) (sym nothing) ∙ d.left) in
    let two : behind_effects (effects_in more) (behind_effects (effects_in last) (drained u)) ≡ behind_effects (effects_in (more ++ last)) (drained u) =
    ap (λ (es : List Effect). gives es (drained u).state) (sym (append_assoc (effects_in more) (effects_in last) (drained u).effects))
    ∙ ap (λ (es : List Effect). behind_effects es (drained u)) (sym (effects_in-append more last)) in
    let long = length-append more last in
    let some = b.reported.0 in
    record {
      bytes = b.bytes;
      chunk = b.chunk;
      taken = b.taken;
      reported = (omega (arith, long, some), all_give_both more last b.reported.1 d.reported.1);
      left = b.left ∙ (ap (behind_effects (effects_in more)) rest ∙ two);
    }

pub again : (event : Event) (s t u : State) (more last : List Report) → StopsWithin (event ∷ []) s t [] more → StopsWithin (rest_of event more ∷ []) t u [] last → StopsWithin (event ∷ []) s u [] (more ++ last)
again event s t u more last stop stop' = stops event s u (more ++ last) (by (stopped event s t more stop))
  where
    then_ : IsInterrupted (rest_of event more) t u last
    then_ = stopped (rest_of event more) t u last stop'

    by : IsInterrupted event s t more → IsInterrupted event s u (more ++ last)
    by (inl none) =
        subst (λ (rs : List Report). IsInterrupted event s u (rs ++ last)) (sym none.1)
        (subst (λ (x : State). IsInterrupted event x u last) none.0
        (subst (λ (rs : List Report). IsInterrupted (rest_of event rs) t u last) none.1 then_))
    by (inr b) = inr (broken_again event s t u more last b (subst (λ (e : Event). IsInterrupted e t u last) (rest_is event more b.reported.0) then_))
