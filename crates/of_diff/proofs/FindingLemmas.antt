-- What is known of two switches while pairs are left.
use Rattle.std.proofs.Common.{arith, length, Result, Ok, Err, ◌≡◌, ◌<◌, ◌≤◌, ◌+◌, ◌-◌, ℕ, suc, ◌⊎◌, List, [], ◌∷◌, ◌++◌, refl, sym, subst, inl, inr}
use Rattle.std.proofs.lemmas.List.Elements.{Contains-append_left, Contains-append_right, Contains-append_cases, Contains-push, Contains-push_cases}
use Rattle.std.specs.{Prelude.OnOk, Prelude.if◌then◌else◌, Prelude.is_ok, Global.Vec, List.Contains}
use Rattle.of_machine.specs.TheWorld.{TheWorld}
use Rattle.of_symbolic_run.specs.{declared.frame_set.FrameSet.FrameSet, FrameSets.InFrames, Received.IsReceivedAt}
use Rattle.of_alike.specs.{declared.alike.Compared.Compared, SamePorts.SamePorts}
use Rattle.of_diff.specs.Reasons.{ArePairSteps, ArePairsAfter, IsFirstPair, IsPairStep, IsReasonOfPair, IsUndecidedSet}
use Rattle.of_diff.specs.{declared.difference.Difference.Difference, declared.difference.Differences.Differences, declared.difference.Undecided.Undecided, declared.pair.Pair.Pair}
use Rattle.of_diff.specs.{Comparing.AreDifferences, Differences.InDifferences, Differences.InUndecided, Differences.IsDifference, Differences.IsTreatedAlike}
use Rattle.of_diff.specs.{declared.difference.Why.TheVariants.Steps, NextPairs.AreNextPairs, Pairs.ArePairs, Pairs.AreStatesOfRuns, Pairs.InPairs, Pairs.PutsDifference, SoFar.IsSoFar}

pub on_appended : {X Y E : Type 0} (r : Result Y E) (new old more : List X) (Q : Type 0) → new ≡ (if is_ok r then old ++ more else old) → (new ≡ old ++ more → Q) → OnOk r Q
on_appended (Ok x) new old more Q is f = f is
on_appended (Err e) new old more Q is f = tt

no_items : {X : Type 0} (xs : List X) → length xs ≡ 0 → xs ≡ []
no_items [] h = refl
no_items (x ∷ xs) h = absurd (omega (arith, h))

pub no_length : {X : Type 0} (xs : Vec X) → xs.len ≡ 0 → xs.items ≡ []
no_length xs h = no_items xs.items (omega (arith, h, xs.ok.0))

pub always_ok : {Y E : Type 0} (r : Result Y E) (Q : Type 0) → Q → OnOk r Q
always_ok (Ok x) Q h = h
always_ok (Err e) Q h = tt

pub first_of_none : {X : Type 0} (none new : List X) (x : X) → none ≡ [] → new ≡ none ++ x ∷ [] → new ≡ x ∷ []
first_of_none none new x is more = rw is at more

pub at_most : (taken left steps : ℕ) → taken + left ≡ steps → taken ≤ steps
at_most taken left steps counted = omega (arith, counted)

pub all_taken : (taken left steps : ℕ) → taken + left ≡ steps → left ≤ 0 → taken ≡ steps
all_taken taken left steps counted none = omega (arith, counted, none)

-- the frames of a pair, if all steps were taken
abbrev pub left_over : Pair → Undecided
left_over p = record { frames = p.frames; why = Steps }

module _ (c : Compared) (w v : TheWorld) (steps : ℕ) where
  -- where a frame is that is received
  abbrev pub IsSomewhere : List Pair → Differences → List ℕ → ℕ → Type 0
  IsSomewhere pairs ds frame port = InPairs pairs frame port ⊎ (InDifferences ds.found.items frame port ⊎ (InUndecided ds.undecided.items frame port ⊎ IsTreatedAlike c w v frame port))

  last_holds : (pairs : List Pair) (pair : Pair) (ds : Differences) → IsSoFar c w v steps (pairs ++ pair ∷ []) ds → AreStatesOfRuns w v pair
  last_holds pairs pair ds h = h.hold pair (Contains-push pairs pair)

  others_hold : (pairs : List Pair) (pair : Pair) (ds : Differences) → IsSoFar c w v steps (pairs ++ pair ∷ []) ds → (p : Pair) → Contains pairs p → AreStatesOfRuns w v p
  others_hold pairs pair ds h p at = h.hold p (Contains-append_left pairs (pair ∷ []) p at)

  -- a frame of the last pair, of another pair, or elsewhere
  pub cases : (pairs : List Pair) (pair : Pair) (ds : Differences) (frame : List ℕ) (port : ℕ) (A : Type 0) → IsSomewhere (pairs ++ pair ∷ []) ds frame port → (InFrames pair.frames frame port → A) → (InPairs pairs frame port → A) →
      (InDifferences ds.found.items frame port ⊎ (InUndecided ds.undecided.items frame port ⊎ IsTreatedAlike c w v frame port) → A) → A
  cases pairs pair ds frame port A (inl h) last other rest = by_place (Contains-push_cases pairs pair h.0 h.1)
    where
      by_place : Contains pairs h.0 ⊎ (pair ≡ h.0) → A
      by_place (inl before) = other (h.0, before, h.2)
      by_place (inr same) = last (subst (λ (p : Pair). InFrames p.frames frame port) (sym same) h.2)
  cases pairs pair ds frame port A (inr h) last other rest = rest h

  pub put_pairs : (pairs more : List Pair) (pair : Pair) (ds : Differences) → ArePairs c w v pair more → IsSoFar c w v steps (pairs ++ pair ∷ []) ds → IsSoFar c w v steps (pairs ++ more) ds
  put_pairs pairs more pair ds are h = record {
    hold = λ p at. elim (Contains-append_cases pairs more p at) as (λ x. AreStatesOfRuns w v p) [
      | inl before ↦ others_hold pairs pair ds h p before
      | inr new ↦ are.hold (last_holds pairs pair ds h) p new
    ];
    real = h.real;
    undecided = h.undecided;
    all = λ frame port received. cases pairs pair ds frame port (IsSomewhere (pairs ++ more) ds frame port) (h.all frame port received)
        (λ within. elim (are.all (last_holds pairs pair ds h) frame port received within) as (λ x. IsSomewhere (pairs ++ more) ds frame port) [
          | inl p ↦ inl (p.0, Contains-append_right pairs more p.0 p.1, p.2)
          | inr alike ↦ inr (inr (inr alike))
        ])
        (λ p. inl (p.0, Contains-append_left pairs more p.0 p.1, p.2))
        (λ rest. inr rest);
  }

  pub put_alike : (pairs : List Pair) (pair : Pair) (ds : Differences) → (AreStatesOfRuns w v pair → (frame : List ℕ) (port : ℕ) → IsReceivedAt w frame port → InFrames pair.frames frame port → IsTreatedAlike c w v frame port) →
      IsSoFar c w v steps (pairs ++ pair ∷ []) ds → IsSoFar c w v steps pairs ds
  put_alike pairs pair ds alike h = record {
    hold = others_hold pairs pair ds h;
    real = h.real;
    undecided = h.undecided;
    all = λ frame port received. cases pairs pair ds frame port (IsSomewhere pairs ds frame port) (h.all frame port received)
        (λ within. inr (inr (inr (alike (last_holds pairs pair ds h) frame port received within))))
        (λ p. inl p)
        (λ rest. inr rest);
  }

  more_found : (ds ds' : Differences) (d : Difference) (frame : List ℕ) (port : ℕ) → PutsDifference d ds.found.items ds'.found.items → ds'.undecided.items ≡ ds.undecided.items →
      InDifferences ds.found.items frame port ⊎ (InUndecided ds.undecided.items frame port ⊎ IsTreatedAlike c w v frame port) → InDifferences ds'.found.items frame port ⊎ (InUndecided ds'.undecided.items frame port ⊎ IsTreatedAlike c w v frame port)
  more_found ds ds' d frame port found undecided (inl h) = inl (found.kept frame port h)
  more_found ds ds' d frame port found undecided (inr (inl h)) = inr (inl (h.0, subst (λ (l : List Undecided). Contains l h.0) (sym undecided) h.1, h.2))
  more_found ds ds' d frame port found undecided (inr (inr h)) = inr (inr h)

  pub put_found : (pairs : List Pair) (pair : Pair) (ds ds' : Differences) (d : Difference) → PutsDifference d ds.found.items ds'.found.items → ds'.undecided.items ≡ ds.undecided.items → IsDifference c w v d → d.sets.items ≡ pair.frames ∷ [] →
      IsSoFar c w v steps (pairs ++ pair ∷ []) ds → IsSoFar c w v steps pairs ds'
  put_found pairs pair ds ds' d found undecided is sets h = record {
    hold = others_hold pairs pair ds h;
    real = found.real c w v is h.real;
    undecided = λ u there. h.undecided u (subst (λ (l : List Undecided). Contains l u) undecided there);
    all = λ frame port received. cases pairs pair ds frame port (IsSomewhere pairs ds' frame port) (h.all frame port received)
        (λ within. inr (inl (found.own frame port (pair.frames, subst (λ (l : List FrameSet). Contains l pair.frames) (sym sets) (Contains-push [] pair.frames), within))))
        (λ p. inl p)
        (λ rest. inr (more_found ds ds' d frame port found undecided rest));
  }

  more_undecided : (ds ds' : Differences) (u : Undecided) (frame : List ℕ) (port : ℕ) → ds'.found.items ≡ ds.found.items → ds'.undecided.items ≡ ds.undecided.items ++ u ∷ [] →
      InDifferences ds.found.items frame port ⊎ (InUndecided ds.undecided.items frame port ⊎ IsTreatedAlike c w v frame port) → InDifferences ds'.found.items frame port ⊎ (InUndecided ds'.undecided.items frame port ⊎ IsTreatedAlike c w v frame port)
  more_undecided ds ds' u frame port found undecided (inl h) = inl (h.0, subst (λ (l : List Difference). Contains l h.0) (sym found) h.1, h.2)
  more_undecided ds ds' u frame port found undecided (inr (inl h)) = inr (inl (h.0, subst (λ (l : List Undecided). Contains l h.0) (sym undecided) (Contains-append_left ds.undecided.items (u ∷ []) h.0 h.1), h.2))
  more_undecided ds ds' u frame port found undecided (inr (inr h)) = inr (inr h)

  pub put_undecided : (pairs : List Pair) (pair : Pair) (ds ds' : Differences) (u : Undecided) → ds'.found.items ≡ ds.found.items → ds'.undecided.items ≡ ds.undecided.items ++ u ∷ [] → u.frames ≡ pair.frames → IsUndecidedSet c w v steps u →
      IsSoFar c w v steps (pairs ++ pair ∷ []) ds → IsSoFar c w v steps pairs ds'
  put_undecided pairs pair ds ds' u found undecided frames reason h = record {
    hold = others_hold pairs pair ds h;
    real = λ x at. h.real x (subst (λ (l : List Difference). Contains l x) found at);
    undecided = λ x there. elim (Contains-push_cases ds.undecided.items u x (subst (λ (l : List Undecided). Contains l x) undecided there)) as (λ y. IsUndecidedSet c w v steps x) [
      | inl before ↦ h.undecided x before
      | inr same ↦ subst (IsUndecidedSet c w v steps) same reason
    ];
    all = λ frame port received. cases pairs pair ds frame port (IsSomewhere pairs ds' frame port) (h.all frame port received)
        (λ within. inr (inr (inl (u, subst (λ (l : List Undecided). Contains l u) (sym undecided) (Contains-push ds.undecided.items u), rw frames within))))
        (λ p. inl p)
        (λ rest. inr (more_undecided ds ds' u frame port found undecided rest));
  }

  -- ---- the beginning and the end

  pub begins : (pair : Pair) (ds : Differences) → ds.found.items ≡ [] → ds.undecided.items ≡ [] → AreStatesOfRuns w v pair → ((frame : List ℕ) (port : ℕ) → IsReceivedAt w frame port → InFrames pair.frames frame port) → IsSoFar c w v steps (pair ∷ []) ds
  begins pair ds none no_sets holds all = record {
    hold = λ p at. (let same : pair ≡ p = one pair p at in subst (AreStatesOfRuns w v) same holds);
    real = λ d at. absurd (nothing d (subst (λ (l : List Difference). Contains l d) none at));
    undecided = λ u at. absurd (nothing u (subst (λ (l : List Undecided). Contains l u) no_sets at));
    all = λ frame port received. inl (pair, Contains-push [] pair, all frame port received);
  }
    where
      nothing : {X : Type 0} (x : X) → Contains {X = X} [] x → ⊥
      nothing x h = absurd (omega (arith, h.1))

      one : (pair p : Pair) → Contains (pair ∷ []) p → pair ≡ p
      one pair p at = by_place (Contains-push_cases [] pair p at)
        where
          by_place : Contains [] p ⊎ (pair ≡ p) → pair ≡ p
          by_place (inl before) = absurd (omega (arith, before.1))
          by_place (inr same) = same

  pub ends : (ds : Differences) → SamePorts w.ports v.ports → IsSoFar c w v steps [] ds → AreDifferences c w v steps ds
  ends ds ports h = record { ports = ports; real = h.real; undecided = h.undecided; all = λ frame port received. by_place frame port (h.all frame port received) }
    where
      by_place : (frame : List ℕ) (port : ℕ) → IsSomewhere [] ds frame port → InDifferences ds.found.items frame port ⊎ (InUndecided ds.undecided.items frame port ⊎ IsTreatedAlike c w v frame port)
      by_place frame port (inl p) = absurd (omega (arith, p.1.1))
      by_place frame port (inr rest) = rest

  -- ---- the steps are taken

  one_more : (taken : ℕ) (before after : List Pair) → ArePairsAfter c w v steps taken before → IsPairStep c w v steps before after → ArePairsAfter c w v steps (taken + 1) after
  one_more taken before after h step = record {
    first = h.first;
    begins = h.begins;
    steps_are = subst (λ (n : ℕ). ArePairSteps c w v steps h.first n after) (let e : suc taken ≡ taken + 1 = omega arith in e) (before, h.steps_are, step);
  }

  module _ (taken : ℕ) (pairs : List Pair) (pair : Pair) (left : ArePairsAfter c w v steps taken (pairs ++ pair ∷ [])) where
    pub step_taken : (more : List Pair) → ArePairs c w v pair more → AreNextPairs w v pair more → ArePairsAfter c w v steps (taken + 1) (pairs ++ more)
    step_taken more are next = one_more taken (pairs ++ pair ∷ []) (pairs ++ more) left (IsPairStep.moved pairs pair more refl refl are next)

    pub step_alike : ((frame : List ℕ) (port : ℕ) → IsReceivedAt w frame port → InFrames pair.frames frame port → IsTreatedAlike c w v frame port) → ArePairsAfter c w v steps (taken + 1) pairs
    step_alike alike = one_more taken (pairs ++ pair ∷ []) pairs left (IsPairStep.alike pair refl alike)

    pub step_differs : (d : Difference) → IsDifference c w v d → d.sets.items ≡ pair.frames ∷ [] → ArePairsAfter c w v steps (taken + 1) pairs
    step_differs d is sets = one_more taken (pairs ++ pair ∷ []) pairs left (IsPairStep.differs pair d refl is sets)

    pub step_undecided : (u : Undecided) → u.frames ≡ pair.frames → ((n : ℕ) → IsReasonOfPair c w v steps n pair u.why) → ArePairsAfter c w v steps (taken + 1) pairs
    step_undecided u frames reason = one_more taken (pairs ++ pair ∷ []) pairs left (IsPairStep.undecided pair u refl frames reason)

    -- the last pair is undecided
    pub last_is_undecided : (u : Undecided) → taken ≤ steps → u.frames ≡ pair.frames → IsReasonOfPair c w v steps taken pair u.why → IsUndecidedSet c w v steps u
    last_is_undecided u most frames reason = record {
      taken = taken;
      most = most;
      pairs = pairs ++ pair ∷ [];
      left = left;
      p = pair;
      there = Contains-push pairs pair;
      own = sym frames;
      reason = reason;
    }

  -- the runs, while so many steps are left
  pub record IsRunning (left : ℕ) (pairs : List Pair) (ds : Differences) : Type 0 where
    pub taken : ℕ
    pub counted : taken + left ≡ steps
    pub after : ArePairsAfter c w v steps taken pairs
    pub so_far : IsSoFar c w v steps pairs ds

  pub running_begins : (pair : Pair) (ds : Differences) → ds.found.items ≡ [] → ds.undecided.items ≡ [] → IsFirstPair w v pair → IsRunning steps (pair ∷ []) ds
  running_begins pair ds none no_sets is = record {
    taken = 0;
    counted = omega arith;
    after = record { first = pair; begins = is; steps_are = refl };
    so_far = begins pair ds none no_sets is.runs is.all;
  }

  pub running_more : (left : ℕ) (old new : List Pair) (ds ds' : Differences) → 0 < left → (h : IsRunning left old ds) → ArePairsAfter c w v steps (h.taken + 1) new → IsSoFar c w v steps new ds' → IsRunning (left - 1) new ds'
  running_more left old new ds ds' some h after so_far = record { taken = h.taken + 1; counted = omega (arith, some, h.counted); after = after; so_far = so_far }

  -- ---- what is left after all steps

  pub record AreLeaving (pairs : List Pair) (ds : Differences) : Type 0 where
    pub each : (p : Pair) → Contains pairs p → IsUndecidedSet c w v steps (left_over p)
    pub so_far : IsSoFar c w v steps pairs ds

  pub leaving_begins : (pairs : List Pair) (ds : Differences) → ArePairsAfter c w v steps steps pairs → IsSoFar c w v steps pairs ds → AreLeaving pairs ds
  leaving_begins pairs ds left h = record {
    each = λ p there. record { taken = steps; most = omega arith; pairs = pairs; left = left; p = p; there = there; own = refl; reason = refl };
    so_far = h;
  }

  pub leave_one : (pairs : List Pair) (pair : Pair) (ds ds' : Differences) → AreLeaving (pairs ++ pair ∷ []) ds → ds'.found.items ≡ ds.found.items → ds'.undecided.items ≡ ds.undecided.items ++ left_over pair ∷ [] → AreLeaving pairs ds'
  leave_one pairs pair ds ds' h found undecided = record {
    each = λ p there. h.each p (Contains-append_left pairs (pair ∷ []) p there);
    so_far = put_undecided pairs pair ds ds' (left_over pair) found undecided refl (h.each pair (Contains-push pairs pair)) h.so_far;
  }
