-- Events, one after the other.
use Rattle.std.proofs.Common.{◌≡◌, ℕ, ◌+◌, ◌<◌, suc, List, [], ◌∷◌, ◌++◌, length, get_or, take, drop, None, Result, Ok, Err, inl, refl, sym, ◌∙◌, ap, subst, arith, append_assoc, add-one, drop-cons}
use Rattle.std.{specs.declared.alloc.AllocError.AllocError, specs.Prelude.OnErr, proofs.lemmas.List.append-nil, proofs.lemmas.List.map-append, proofs.lemmas.List.take-append-drop}
use Rattle.std.proofs.Math.Seq.{take-suc}
use Rattle.of_datapath.specs.declared.effect.Effect.{Effect}
use Rattle.of_switch.specs.Runs.{behind_effects, drained, Report, Gives, report_of, reports_of, Happened, happened, Run, run, IsInterrupted, StopsWithin, RunsAll}
use Rattle.of_switch.specs.{declared.event.Event.Event, declared.event.Report.Report as Reported, State.State, Steps.Outcome, Steps.gives, Steps.next_of, Stepping.Happens, Stepping.Drains}
use Rattle.of_switch.proofs.{Draining.Left, Draining.left_all, Joining.drain_same}

-- A CHUNK

-- what is left is what there is to drain
left_told : (first s : State) (effects : List Effect) → Left first s effects → drained first ≡ behind_effects effects (drained s)
left_told first s effects left =
    left.told ∙ ap (behind_effects effects) (drain_same left.turns (length s.connection.pending + 1) s left.enough (omega arith))

-- one more report
pub reports_more : (reports reports' : List Reported) (report : Reported) → reports' ≡ reports ++ report ∷ [] → reports_of reports' ≡ reports_of reports ++ report_of report ∷ []
reports_more reports reports' report e = ap reports_of e ∙ map-append report_of reports (report ∷ [])

pub drains_all : (first s : State) (effects : List Effect) (reports reports' : List Report) → next_of s ≡ None → Left first s effects → reports' ≡ reports ++ Gives effects ∷ [] → Drains (Ok tt) first s reports reports'
drains_all first s effects reports reports' none left e =
    let all : drained first ≡ gives effects s = left_all first s effects none left in
    (ap (λ (o : Outcome). o.state) (sym all), e ∙ ap (λ (o : Outcome). reports ++ Gives o.effects ∷ []) (sym all))

-- memory ran out for a message, and what was given is one report
pub drains_one : (first s : State) (effects : List Effect) (x : AllocError) (reports reports' : List Report) → Left first s effects → reports' ≡ reports ++ Gives effects ∷ [] → Drains (Err x) first s reports reports'
drains_one first s effects x reports reports' left e =
    (Gives effects ∷ [], e, (omega arith, tt), left_told first s effects left ∙ ap (λ (es : List Effect). behind_effects es (drained s)) (sym (append-nil effects)))

-- or two
pub drains_two : (first s : State) (effects more : List Effect) (x : AllocError) (reports reports' reports'' : List Report) → Left first s (effects ++ more)
    → reports' ≡ reports ++ Gives effects ∷ [] → reports'' ≡ reports' ++ Gives more ∷ [] → Drains (Err x) first s reports reports''
drains_two first s effects more x reports reports' reports'' left e f = (
  Gives effects ∷ Gives more ∷ [],
  f ∙ (ap (λ (rs : List Report). rs ++ Gives more ∷ []) e ∙ append_assoc reports (Gives effects ∷ []) (Gives more ∷ [])),
  (omega arith, tt),
  left_told first s (effects ++ more) left ∙ ap (λ (es : List Effect). behind_effects (effects ++ es) (drained s)) (sym (append-nil more)),
)

-- EVENTS

-- one more event
run-more : (es : List Event) (e : Event) (s : State) → run (es ++ e ∷ []) s ≡ record { reports = (run es s).reports ++ (happened e (run es s).state).report ∷ []; state = (happened e (run es s).state).state }
run-more [] e s = refl
run-more (f ∷ es) e s = ap (λ (r : Run). record { reports = (happened f s).report ∷ r.reports; state = r.state }) (run-more es e (happened f s).state)

one_more : (es : List Event) (i : ℕ) (e : Event) → i < length es → e ≡ get_or es i e → take (i + 1) es ≡ take i es ++ e ∷ []
one_more es i e lt is = ap (λ (n : ℕ). take n es) (add-one i) ∙ (take-suc es i e lt ∙ ap (λ (x : Event). take i es ++ x ∷ []) (sym is))

split_at : (es : List Event) (i : ℕ) (e : Event) → i < length es → e ≡ get_or es i e → es ≡ take i es ++ e ∷ drop (suc i) es
split_at es i e lt is =
    sym (take-append-drop i es) ∙ ap (λ (xs : List Event). take i es ++ xs) (drop-cons es i e lt ∙ ap (λ (x : Event). x ∷ drop (suc i) es) (sym is))

pub runs_more : (es : List Event) (i : ℕ) (e : Event) (s t u : State) (reports reports' reports'' : List Report) → i < length es → e ≡ get_or es i e
    → RunsAll (take i es) s t reports reports' → Happens (Ok tt) e t u reports' reports'' → RunsAll (take (i + 1) es) s u reports reports''
runs_more es i e s t u reports reports' reports'' lt is ran h =
    let r = run (take i es) s in
    let whole : run (take (i + 1) es) s ≡ record { reports = r.reports ++ (happened e r.state).report ∷ []; state = (happened e r.state).state } = ap (λ (xs : List Event). run xs s) (one_more es i e lt is) ∙ run-more (take i es) e s in
    let here : happened e t ≡ happened e r.state = ap (happened e) ran.state in
    record {
      state = h.0 ∙ (ap (λ (x : Happened). x.state) here ∙ ap (λ (x : Run). x.state) (sym whole));
      reports_are = h.1
          ∙ (ap (λ (x : Happened). reports' ++ x.report ∷ []) here
          ∙ (ap (λ (rs : List Report). rs ++ (happened e r.state).report ∷ []) ran.reports_are
          ∙ (append_assoc reports r.reports ((happened e r.state).report ∷ [])
          ∙ ap (λ (x : Run). reports ++ x.reports) (sym whole))));
    }

pub runs_stop : (es : List Event) (i : ℕ) (e : Event) (x : AllocError) (s t u : State) (reports reports' reports'' : List Report) → i < length es → e ≡ get_or es i e
    → RunsAll (take i es) s t reports reports' → Happens (Err x) e t u reports' reports'' → StopsWithin es s u reports reports''
runs_stop es i e x s t u reports reports' reports'' lt is ran h = record {
  first = take i es;
  event = e;
  others = drop (suc i) es;
  events_are = split_at es i e lt is;
  more = h.0;
  reports_are = h.1 ∙ ap (λ (rs : List Report). rs ++ h.0) ran.reports_are;
  interrupted = subst (λ (y : State). IsInterrupted e y u h.0) ran.state h.2;
}

-- without capacity for the reports
pub runs_wait : (es : List Event) (i : ℕ) (e : Event) (s t : State) (reports reports' : List Report) → i < length es → e ≡ get_or es i e → RunsAll (take i es) s t reports reports' → StopsWithin es s t reports reports'
runs_wait es i e s t reports reports' lt is ran = record {
  first = take i es;
  event = e;
  others = drop (suc i) es;
  events_are = split_at es i e lt is;
  more = [];
  reports_are = ran.reports_are ∙ sym (append-nil (reports ++ (run (take i es) s).reports));
  interrupted = inl (ran.state, refl);
}

pub on_err : {T E : Type 0} (r : Result T E) (P : Type 0) → P → OnErr r P
on_err (Ok x) P p = tt
on_err (Err e) P p = p
