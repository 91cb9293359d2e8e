-- What is known of the frames while cases are left.
use Rattle.std.proofs.Common.{◌≡◌, ◌<◌, ◌≤◌, ◌+◌, ◌-◌, ℕ, true, List, [], ◌∷◌, ◌++◌, length, Result, Ok, Err, refl, sym, subst, arith, inl, inr, ◌⊎◌, reverse}
use Rattle.std.proofs.lemmas.List.Elements.{Contains-append_cases, Contains-append_left, Contains-append_right, Contains-push, Contains-push_cases}
use Rattle.std.specs.{Prelude.OnOk, Prelude.if◌then◌else◌, Prelude.is_ok, Global.Vec, List.Contains}
use Rattle.of_oxm.specs.{declared.match_field.MatchField.MatchField, Relations.matches_map}
use Rattle.of_machine.specs.{TheWorld.TheWorld, Rows.Lookup, Rows.entering, Runs.run_of, Sound.IsSound}
use Rattle.of_symbolic.specs.Parts.{received_fields}
use Rattle.of_symbolic_run.specs.{declared.dividing.Case.Case, declared.state.SymbolicState.SymbolicState, Cases.AreCases, declared.finding.FrameFound.TheVariants.Undecided}
use Rattle.of_symbolic_run.specs.{declared.frame_set.FrameSet.FrameSet, FrameSets.FindsFrame, FrameSets.InFrames, NextStates.AreNextStates, NextStates.IsNextState, States.IsAt, States.items_for}
use Rattle.of_symbolic_run.{specs.Received.AreReceived, specs.Received.IsReceivedAt, proofs.NextLemmas.one_apart, proofs.ReceivedLemmas.fewer_received}
use Rattle.of_paths.specs.Reasons.{AreLeftAfter, AreMatched, AreUndecided, IsFirstCase, IsReason, IsStateOfRuns}
use Rattle.of_paths.specs.SoFar.{ArePathsSoFar, AreRunsOf, InCases, IsFoundIn, PutsPath, unfound}
use Rattle.of_paths.specs.{declared.path.Merging.Merging, declared.path.Merging.TheVariants.Each, declared.path.Merging.TheVariants.SameWay, declared.path.Path.Path, declared.path.Paths.Paths}
use Rattle.of_paths.specs.{declared.path.PathClass.PathClass, declared.path.UndecidedFrames.UndecidedFrames, declared.path.WhyUndecided.TheVariants.Steps, Paths.ArePaths, Paths.AreMerged}
use Rattle.of_paths.proofs.{FoundLemmas.found_undecided, FoundLemmas.last_undecided, FoundLemmas.more_undecided, ReachedLemmas.from_reverse, ReachedLemmas.last_of_run, ReachedLemmas.to_reverse}

pub on_appended : {X Y E : Type 0} (r : Result Y E) (new old more : List X) (Q : Type 0) → new ≡ (if is_ok r then old ++ more else old) → (new ≡ old ++ more → Q) → OnOk r Q
on_appended (Ok x) new old more Q is f = f is
on_appended (Err e) new old more Q is f = tt

no_items : {X : Type 0} (xs : List X) → length xs ≡ 0 → xs ≡ []
no_items [] h = refl
no_items (x ∷ xs) h = absurd (omega (arith, h))

pub no_length : {X : Type 0} (xs : Vec X) → xs.len ≡ 0 → xs.items ≡ []
no_length xs h = no_items xs.items (omega (arith, h, xs.ok.0))

pub always_ok : {Y E : Type 0} (r : Result Y E) (Q : Type 0) → Q → OnOk r Q
always_ok (Ok x) Q h = h
always_ok (Err e) Q h = tt

pub first_of_none : {X : Type 0} (none new : List X) (x : X) → none ≡ [] → new ≡ none ++ x ∷ [] → new ≡ x ∷ []
first_of_none none new x is more = rw is at more

-- ---- the other way round

pub reversed_cases : (w : TheWorld) (old : Case) (cases more : List Case) → more ≡ reverse cases → AreCases w old.frames old.state cases → AreCases w old.frames old.state more
reversed_cases w old cases more is are = record {
  within = λ c there. are.within c (from_reverse cases c (subst (λ (l : List Case). Contains l c) is there));
  all = λ frame port is_frame h. (let c = are.all frame port is_frame h in (c.0, subst (λ (l : List Case). Contains l c.0) (sym is) (to_reverse cases c.0 c.1), c.2));
  at = λ c there. are.at c (from_reverse cases c (subst (λ (l : List Case). Contains l c) is there));
}

-- a step that is the same for each frame
pub one_case : (w : TheWorld) (old new : Case) → new.frames ≡ old.frames → ((frame : List ℕ) (port : ℕ) → IsAt w frame port old.state → IsAt w frame port new.state) → AreCases w old.frames old.state (new ∷ [])
one_case w old new frames step = record {
  within = λ c there frame port h. (let same = one c there in rw (sym frames) (subst (λ (x : Case). InFrames x.frames frame port) (sym same) h));
  all = λ frame port is h. (new, Contains-push [] new, rw frames h);
  at = λ c there frame port is h at. (let same = one c there in subst (λ (x : Case). IsAt w frame port x.state) same (step frame port at));
}
  where
    one : (c : Case) → Contains (new ∷ []) c → new ≡ c
    one c there = by_place (Contains-push_cases [] new c there)
      where
        by_place : Contains [] c ⊎ (new ≡ c) → new ≡ c
        by_place (inl before) = absurd (omega (arith, before.1))
        by_place (inr same) = same

-- its next state
pub one_next : (w : TheWorld) (old : SymbolicState) (new : Case) → IsNextState w old new.state → AreNextStates w old (new ∷ [])
one_next w old new next = record { each = each; apart = one_apart new }
  where
    each : (c : Case) → Contains (new ∷ []) c → IsNextState w old c.state
    each c there = by_place (Contains-push_cases [] new c there)
      where
        by_place : Contains [] c ⊎ (new ≡ c) → IsNextState w old c.state
        by_place (inl before) = absurd (omega (arith, before.1))
        by_place (inr same) = subst (λ (x : Case). IsNextState w old x.state) same next

-- the lines and the items of a run that is done
abbrev pub path_of : Case → Path
path_of c = record { frames = c.frames; steps = c.state.steps; emitted = c.state.emitted }

pub ended_runs : (w : TheWorld) (c : Case) → ((v : TheWorld) (frame : List ℕ) (port : ℕ) (s : SymbolicState) → IsSound v → IsAt v frame port s → s.tasks.items ≡ [] → (run_of v (entering frame port) (Lookup 0 ∷ [])).lines ≡ s.steps.items) →
    ((v : TheWorld) (frame : List ℕ) (port : ℕ) (s : SymbolicState) → IsSound v → IsAt v frame port s → s.tasks.items ≡ [] → (run_of v (entering frame port) (Lookup 0 ∷ [])).items ≡ items_for v.ports s.emitted.items frame port) →
    IsSound w → c.state.tasks.items ≡ [] → IsStateOfRuns w c → AreRunsOf w c (path_of c)
ended_runs w c lines items sound none holds = record {
  takes = λ frame port received inside. lines w frame port c.state sound (holds frame port received.frame_is inside) none;
  emits = λ frame port received inside. items w frame port c.state sound (holds frame port received.frame_is inside) none;
}

none_merged : (m : Merging) → AreMerged m []
none_merged SameWay = tt
none_merged Each = λ c there. absurd (omega (arith, there.1))

-- the frames of a case, if all steps were taken
abbrev pub left_over : Case → UndecidedFrames
left_over c = record { frames = c.frames; why = Steps }

module _ (m : Merging) (w : TheWorld) (within : List MatchField) (steps : ℕ) where
  -- where a frame is that is received
  abbrev pub IsSomewhere : List Case → Paths → List ℕ → ℕ → Type 0
  IsSomewhere cases found frame port = InCases cases frame port ⊎ IsFoundIn found frame port

  module _ (cases : List Case) (old : Case) (found : Paths) (h : ArePathsSoFar m w within steps (cases ++ old ∷ []) found) where
    last_holds : IsStateOfRuns w old
    last_holds = h.hold old (Contains-push cases old)

    last_inside : AreMatched w within old.frames
    last_inside = h.inside old (Contains-push cases old)

    others_hold : (c : Case) → Contains cases c → IsStateOfRuns w c
    others_hold c there = h.hold c (Contains-append_left cases (old ∷ []) c there)

    others_inside : (c : Case) → Contains cases c → AreMatched w within c.frames
    others_inside c there = h.inside c (Contains-append_left cases (old ∷ []) c there)

    pub ended_received : (p : Path) → p.frames ≡ old.frames → AreReceived w.ports p.frames
    ended_received p frames = rw frames last_inside.received

    -- a frame of the last case, of another case, or elsewhere
    at_cases : (frame : List ℕ) (port : ℕ) (A : Type 0) → IsSomewhere (cases ++ old ∷ []) found frame port → (InFrames old.frames frame port → A) → (InCases cases frame port → A) → (IsFoundIn found frame port → A) → A
    at_cases frame port A (inl k) last other rest = by_place (Contains-push_cases cases old k.0 k.1)
      where
        by_place : Contains cases k.0 ⊎ (old ≡ k.0) → A
        by_place (inl before) = other (k.0, before, k.2)
        by_place (inr same) = last (subst (λ (c : Case). InFrames c.frames frame port) (sym same) k.2)
    at_cases frame port A (inr k) last other rest = rest k

    pub put_cases : (more : List Case) → AreCases w old.frames old.state more → ArePathsSoFar m w within steps (cases ++ more) found
    put_cases more are = record {
      hold = λ c there. elim (Contains-append_cases cases more c there) as (λ x. IsStateOfRuns w c) [
        | inl before ↦ others_hold c before
        | inr new ↦ (λ frame port is inside. are.at c new frame port is inside (last_holds frame port is (are.within c new frame port inside)))
      ];
      inside = λ c there. elim (Contains-append_cases cases more c there) as (λ x. AreMatched w within c.frames) [
        | inl before ↦ others_inside c before
        | inr new ↦ record {
          matched = λ frame port inside. last_inside.matched frame port (are.within c new frame port inside);
          received = fewer_received w.ports old.frames c.frames (are.within c new) last_inside.received;
        }
      ];
      right = h.right;
      all = λ frame port received matched. at_cases frame port (IsSomewhere (cases ++ more) found frame port) (h.all frame port received matched)
          (λ inside. (let c = are.all frame port received.frame_is inside in inl (c.0, Contains-append_right cases more c.0 c.1, c.2)))
          (λ k. inl (k.0, Contains-append_left cases more k.0 k.1, k.2))
          (λ k. inr k);
    }

    -- the last case is undecided, after so many steps
    pub last_is_undecided : (taken : ℕ) (u : UndecidedFrames) → taken ≤ steps → AreLeftAfter w within taken (cases ++ old ∷ []) → u.frames ≡ old.frames → IsReason w steps taken old u.why → AreUndecided w within steps u
    last_is_undecided taken u most left frames reason = record {
      matched = rw frames last_inside;
      taken = taken;
      most = most;
      cases = cases ++ old ∷ [];
      left = left;
      c = old;
      there = Contains-push cases old;
      own = sym frames;
      reason = reason;
    }

    pub put_ended : (taken : ℕ) (p : Path) (found' : Paths) → taken ≤ steps → AreLeftAfter w within taken (cases ++ old ∷ []) → p.frames ≡ old.frames → old.state.tasks.items ≡ [] → p.steps.items ≡ old.state.steps.items → p.emitted.items ≡ old.state.emitted.items → (IsStateOfRuns w old → AreRunsOf w old p) → PutsPath m w steps p found found' → ArePathsSoFar m w within steps cases found'
    put_ended taken p found' most left frames done told sent runs puts = record {
      hold = others_hold;
      inside = others_inside;
      right = puts.found within (record { run = last_of_run w within taken cases old p left done told sent; matched = rw frames last_inside; takes = λ frame port received inside. (runs last_holds).takes frame port received (rw (sym frames) inside); emits = λ frame port received inside. (runs last_holds).emits frame port received (rw (sym frames) inside) })
          (λ none. last_is_undecided taken (unfound p) most left frames (done, subst (λ (s : FrameSet). FindsFrame s steps Undecided) frames none)) h.right;
      all = λ frame port received matched. at_cases frame port (IsSomewhere cases found' frame port) (h.all frame port received matched)
          (λ inside. inr (puts.own frame port received (rw frames inside)))
          (λ k. inl k)
          (λ k. inr (puts.kept frame port k));
    }

    pub put_undecided : (u : UndecidedFrames) (found' : Paths) → u.frames ≡ old.frames → AreUndecided w within steps u → found'.classes.items ≡ found.classes.items → found'.undecided.items ≡ found.undecided.items ++ u ∷ [] → ArePathsSoFar m w within steps cases found'
    put_undecided u found' frames reason classes undecided = record {
      hold = others_hold;
      inside = others_inside;
      right = found_undecided m w within steps found found' u classes undecided reason h.right;
      all = λ frame port received matched. at_cases frame port (IsSomewhere cases found' frame port) (h.all frame port received matched)
          (λ inside. inr (last_undecided found found' u undecided frame port (rw frames inside)))
          (λ k. inl k)
          (λ k. inr (more_undecided found found' u classes undecided frame port k));
    }

  -- ---- the beginning and the end

  pub begins : (first : Case) (found : Paths) → found.classes.items ≡ [] → found.undecided.items ≡ [] → IsStateOfRuns w first → AreMatched w within first.frames →
      ((frame : List ℕ) (port : ℕ) → IsReceivedAt w frame port → matches_map within (received_fields frame port) ≡ true → InFrames first.frames frame port) → ArePathsSoFar m w within steps (first ∷ []) found
  begins first found no_classes none holds inside all = record {
    hold = λ c there. subst (IsStateOfRuns w) (one c there) holds;
    inside = λ c there. subst (λ (x : Case). AreMatched w within x.frames) (one c there) inside;
    right = record {
      classes = λ c there. absurd (nothing c (subst (λ (l : List PathClass). Contains l c) no_classes there));
      merged = subst (AreMerged m) (sym no_classes) (none_merged m);
      undecided = λ u there. absurd (nothing u (subst (λ (l : List UndecidedFrames). Contains l u) none there));
    };
    all = λ frame port received matched. inl (first, Contains-push [] first, all frame port received matched);
  }
    where
      nothing : {X : Type 0} (x : X) → Contains {X = X} [] x → ⊥
      nothing x h = absurd (omega (arith, h.1))

      one : (c : Case) → Contains (first ∷ []) c → first ≡ c
      one c there = by_place (Contains-push_cases [] first c there)
        where
          by_place : Contains [] c ⊎ (first ≡ c) → first ≡ c
          by_place (inl before) = absurd (omega (arith, before.1))
          by_place (inr same) = same

  pub ends : (found : Paths) → ArePathsSoFar m w within steps [] found → ArePaths m w within steps found
  ends found h = record { classes = h.right.classes; merged = h.right.merged; undecided = h.right.undecided; all = λ frame port received matched. by_place frame port (h.all frame port received matched) }
    where
      by_place : (frame : List ℕ) (port : ℕ) → IsSomewhere [] found frame port → IsFoundIn found frame port
      by_place frame port (inl k) = absurd (omega (arith, k.1.1))
      by_place frame port (inr k) = k

  -- ---- the steps are taken

  -- the runs, while so many steps are left
  pub record IsRunning (left : ℕ) (cases : List Case) (found : Paths) : Type 0 where
    pub taken : ℕ
    pub counted : taken + left ≡ steps
    pub after : AreLeftAfter w within taken cases
    pub so_far : ArePathsSoFar m w within steps cases found

  pub running_begins : (first : Case) (found : Paths) → found.classes.items ≡ [] → found.undecided.items ≡ [] → IsFirstCase w within first → IsRunning steps (first ∷ []) found
  running_begins first found no_classes none is = record {
    taken = 0;
    counted = omega arith;
    after = record { first = first; begins = is; steps = refl };
    so_far = begins first found no_classes none is.runs is.matched is.all;
  }

  pub running_more : (left : ℕ) (old new : List Case) (found found' : Paths) → 0 < left → (h : IsRunning left old found) → AreLeftAfter w within (h.taken + 1) new → ArePathsSoFar m w within steps new found' → IsRunning (left - 1) new found'
  running_more left old new found found' some h after so_far = record { taken = h.taken + 1; counted = omega (arith, some, h.counted); after = after; so_far = so_far }

  -- ---- what is left after all steps

  pub record AreLeaving (cases : List Case) (found : Paths) : Type 0 where
    pub undecided : (c : Case) → Contains cases c → AreUndecided w within steps (left_over c)
    pub so_far : ArePathsSoFar m w within steps cases found

  pub leaving_begins : (cases : List Case) (found : Paths) → AreLeftAfter w within steps cases → ArePathsSoFar m w within steps cases found → AreLeaving cases found
  leaving_begins cases found left h = record {
    undecided = λ c there. record { matched = h.inside c there; taken = steps; most = omega arith; cases = cases; left = left; c = c; there = there; own = refl; reason = refl };
    so_far = h;
  }

  pub leave_one : (cases : List Case) (old : Case) (found found' : Paths) → AreLeaving (cases ++ old ∷ []) found → found'.classes.items ≡ found.classes.items → found'.undecided.items ≡ found.undecided.items ++ left_over old ∷ [] → AreLeaving cases found'
  leave_one cases old found found' h classes undecided = record {
    undecided = λ c there. h.undecided c (Contains-append_left cases (old ∷ []) c there);
    so_far = put_undecided cases old found h.so_far (left_over old) found' refl (h.undecided old (Contains-push cases old)) classes undecided;
  }
