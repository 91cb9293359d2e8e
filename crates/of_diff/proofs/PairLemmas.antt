-- Pairs of states after a step of one of the two runs.
use Rattle.std.proofs.Common.{arith, ◌≡◌, ℕ, zero, suc, ◌⊎◌, List, [], ◌∷◌, ◌++◌, Some, refl, sym, ap, ◌∙◌, subst, inl, inr}
use Rattle.std.{specs.Prelude.map, specs.Prelude.slice_get, specs.List.Contains, proofs.lemmas.List.append-nil}
use Rattle.std.proofs.lemmas.List.Elements.{Contains-push, Contains-push_cases}
use Rattle.of_machine.specs.TheWorld.{TheWorld}
use Rattle.of_symbolic_run.specs.{declared.dividing.Case.Case, declared.state.SymbolicState.SymbolicState, declared.state.SymbolicTask.SymbolicTask, Cases.AreCases, FrameSets.InFrames}
use Rattle.of_symbolic_run.specs.{NextStates.AreNextStates, NextStates.IsNextState, States.AreTaskCopies, States.IsAt, States.IsStateCopy, States.task_for}
use Rattle.of_symbolic_run.proofs.{ReceivedLemmas.fewer_received, NextLemmas.some_same}
use Rattle.of_alike.specs.declared.alike.Compared.{Compared}
use Rattle.of_diff.specs.Pairs.{AreByFirst, AreBySecond, AreLinedUp, ArePairs, AreStatesOfRuns, IsByFirst, IsBySecond}
use Rattle.of_diff.specs.{declared.pair.Pair.Pair, NextPairs.AreNextPairs, NextPairs.ArePairsApart, NextPairs.IsNextPair, NextPairs.pairs_of_parts}

pub same_tasks : (frame : List ℕ) (port : ℕ) (ts cs : List SymbolicTask) → AreTaskCopies ts cs → map (task_for frame port) cs ≡ map (task_for frame port) ts
same_tasks frame port [] [] h = refl
same_tasks frame port [] (c ∷ cs) h = absurd h
same_tasks frame port (t ∷ ts) [] h = absurd h
same_tasks frame port (t ∷ ts) (c ∷ cs) h = rw (h.0.0, h.0.1, same_tasks frame port ts cs h.1) refl

pub copy_at : (w : TheWorld) (frame : List ℕ) (port : ℕ) (s c : SymbolicState) → IsStateCopy s c → IsAt w frame port s → IsAt w frame port c
copy_at w frame port s c h at = record { steps = at.steps; tasks = at.tasks ∙ sym (same_tasks frame port s.tasks.items c.tasks.items h.0); items = rw h.1 at.items; lines = at.lines ∙ sym h.2 }

-- ---- the cases of one run

none_contained : {A : Type 0} (x : A) → Contains {X = A} [] x → ⊥
none_contained x h = absurd (omega (arith, h.1))

-- a pair of a case, and a case of a pair
module _ (of : Case → Pair → Type 0) where
  pub more_lined_up : (cases : List Case) (pairs : List Pair) (c : Case) (p : Pair) → AreLinedUp of cases pairs → of c p → AreLinedUp of (cases ++ c ∷ []) (pairs ++ p ∷ [])
  more_lined_up [] [] c p are one = (one, tt)
  more_lined_up [] (q ∷ pairs) c p are one = absurd are
  more_lined_up (d ∷ cases) [] c p are one = absurd are
  more_lined_up (d ∷ cases) (q ∷ pairs) c p are one = (are.0, more_lined_up cases pairs c p are.1 one)

  pub record IsOfCase (cases : List Case) (p : Pair) : Type 0 where
    pub c : Case
    pub there : Contains cases c
    pub own : of c p

  pub of_case : (cases : List Case) (pairs : List Pair) → AreLinedUp of cases pairs → (p : Pair) → Contains pairs p → IsOfCase cases p
  of_case [] [] are p at = absurd (none_contained p at)
  of_case [] (q ∷ pairs) are p at = absurd are
  of_case (d ∷ cases) [] are p at = absurd are
  of_case (d ∷ cases) (q ∷ pairs) are p (zero, lt, at) = record { c = d; there = (0, omega arith, refl); own = subst (of d) at are.0 }
  of_case (d ∷ cases) (q ∷ pairs) are p (suc k, lt, at) =
      let o = of_case cases pairs are.1 p (k, omega (arith, lt), at) in
      record { c = o.c; there = (suc o.there.0, (let l = o.there.1 in omega (arith, l)), o.there.2); own = o.own }

  pub record HasPair (pairs : List Pair) (c : Case) : Type 0 where
    pub p : Pair
    pub there : Contains pairs p
    pub own : of c p

  pub has_pair : (cases : List Case) (pairs : List Pair) → AreLinedUp of cases pairs → (c : Case) → Contains cases c → HasPair pairs c
  has_pair [] [] are c at = absurd (none_contained c at)
  has_pair [] (q ∷ pairs) are c at = absurd are
  has_pair (d ∷ cases) [] are c at = absurd are
  has_pair (d ∷ cases) (q ∷ pairs) are c (zero, lt, at) = record { p = q; there = (0, omega arith, refl); own = subst (λ (x : Case). of x q) at are.0 }
  has_pair (d ∷ cases) (q ∷ pairs) are c (suc k, lt, at) =
      let o = has_pair cases pairs are.1 c (k, omega (arith, lt), at) in
      record { p = o.p; there = (suc o.there.0, (let l = o.there.1 in omega (arith, l)), o.there.2); own = o.own }

  pub record IsAtCase (cases : List Case) (k : ℕ) (p : Pair) : Type 0 where
    pub c : Case
    pub there : slice_get cases k ≡ Some c
    pub own : of c p

  pub at_case : (cases : List Case) (pairs : List Pair) → AreLinedUp of cases pairs → (k : ℕ) (p : Pair) → slice_get pairs k ≡ Some p → IsAtCase cases k p
  at_case [] [] are k p at = absurd cc
  at_case [] (q ∷ pairs) are k p at = absurd are
  at_case (d ∷ cases) [] are k p at = absurd are
  at_case (d ∷ cases) (q ∷ pairs) are zero p at = record { c = d; there = refl; own = subst (of d) (some_same q p at) are.0 }
  at_case (d ∷ cases) (q ∷ pairs) are (suc k) p at = let o = at_case cases pairs are.1 k p at in record { c = o.c; there = o.there; own = o.own }

-- ---- what comes of a pair

module _ (c : Compared) (w v : TheWorld) where
  one_is : (p q : Pair) → Contains (p ∷ []) q → p ≡ q
  one_is p q at = by_place (Contains-push_cases [] p q at)
    where
      by_place : Contains [] q ⊎ (p ≡ q) → p ≡ q
      by_place (inl before) = absurd (none_contained q before)
      by_place (inr same) = same

  alone : (old new : Pair) → new.frames ≡ old.frames → (AreStatesOfRuns w v old → AreStatesOfRuns w v new) → ArePairs c w v old (new ∷ [])
  alone old new frames holds = record {
    hold = λ h p at. subst (AreStatesOfRuns w v) (one_is new p at) (holds h);
    all = λ h frame port received within. inl (new, Contains-push [] new, rw frames within);
  }

  pub first_advanced : (old new : Pair) → new.frames ≡ old.frames → new.second ≡ old.second → ((frame : List ℕ) (port : ℕ) → IsAt w frame port old.first → IsAt w frame port new.first) → ArePairs c w v old (new ∷ [])
  first_advanced old new frames second step = alone old new frames (λ h. record {
    at = λ frame port is within. (let at = h.at frame port is (rw (sym frames) within) in (step frame port at.0, rw second at.1));
    received = rw frames h.received;
  })

  pub second_advanced : (old new : Pair) → new.frames ≡ old.frames → new.first ≡ old.first → ((frame : List ℕ) (port : ℕ) → IsAt v frame port old.second → IsAt v frame port new.second) → ArePairs c w v old (new ∷ [])
  second_advanced old new frames first step = alone old new frames (λ h. record {
    at = λ frame port is within. (let at = h.at frame port is (rw (sym frames) within) in (rw first at.0, step frame port at.1));
    received = rw frames h.received;
  })

  pub first_divided : (old : Pair) (cases : List Case) (pairs : List Pair) → AreCases w old.frames old.first cases → AreByFirst cases old.second pairs → ArePairs c w v old pairs
  first_divided old cases pairs are by = record {
    hold = λ h p there.
        let e = of_case (IsByFirst old.second) cases pairs by p there in
        record {
          at = λ frame port is within.
              let inside : InFrames e.c.frames frame port = rw (sym e.own.0) within in
              let at = h.at frame port is (are.within e.c e.there frame port inside) in
              (rw e.own.1 (are.at e.c e.there frame port is inside at.0), copy_at v frame port old.second p.second e.own.2 at.1);
          received = rw e.own.0 (fewer_received w.ports old.frames e.c.frames (are.within e.c e.there) h.received);
        };
    all = λ h frame port received within.
        let a = are.all frame port received.frame_is within in
        let b = has_pair (IsByFirst old.second) cases pairs by a.0 a.1 in
        inl (b.p, b.there, rw b.own.0 a.2);
  }

  pub second_divided : (old : Pair) (cases : List Case) (pairs : List Pair) → AreCases v old.frames old.second cases → AreBySecond old.first cases pairs → ArePairs c w v old pairs
  second_divided old cases pairs are by = record {
    hold = λ h p there.
        let e = of_case (IsBySecond old.first) cases pairs by p there in
        record {
          at = λ frame port is within.
              let inside : InFrames e.c.frames frame port = rw (sym e.own.0) within in
              let at = h.at frame port is (are.within e.c e.there frame port inside) in
              (copy_at w frame port old.first p.first e.own.2 at.0, rw e.own.1 (are.at e.c e.there frame port is inside at.1));
          received = rw e.own.0 (fewer_received w.ports old.frames e.c.frames (are.within e.c e.there) h.received);
        };
    all = λ h frame port received within.
        let a = are.all frame port received.frame_is within in
        let b = has_pair (IsBySecond old.first) cases pairs by a.0 a.1 in
        inl (b.p, b.there, rw b.own.0 a.2);
  }

-- ---- next pairs

copy_itself : (ts : List SymbolicTask) → AreTaskCopies ts ts
copy_itself [] = tt
copy_itself (t ∷ ts) = ((refl, refl), copy_itself ts)

pub state_itself : (s : SymbolicState) → IsStateCopy s s
state_itself s = (copy_itself s.tasks.items, refl, refl)

no_parts : (pairs : List Pair) → pairs ≡ pairs_of_parts (pairs ∷ [])
no_parts pairs = sym (append-nil pairs)

one_part : (P : List Pair → Type 0) (pairs part : List Pair) → P pairs → Contains (pairs ∷ []) part → P part
one_part P pairs part h (zero, lt, at) = subst P at h
one_part P pairs part h (suc k, lt, at) = absurd (omega (arith, lt))

same_place : {X : Type 0} (x : X) (i j : ℕ) (a b : X) → slice_get (x ∷ []) i ≡ Some a → slice_get (x ∷ []) j ≡ Some b → i ≡ j
same_place x zero zero a b at_i at_j = refl
same_place x zero (suc j) a b at_i at_j = absurd cc
same_place x (suc i) j a b at_i at_j = absurd cc

module _ (w v : TheWorld) (old : Pair) where
  -- no two took the same steps
  pub in_one_part : (pairs : List Pair) → ((p : Pair) → Contains pairs p → IsNextPair w v old p) → ArePairsApart pairs → AreNextPairs w v old pairs
  in_one_part pairs each apart = record { each = each; parts = pairs ∷ []; all = no_parts pairs; apart = λ part there. one_part ArePairsApart pairs part apart there; few = inl (omega arith) }

  pub one_next : (new : Pair) → IsNextPair w v old new → AreNextPairs w v old (new ∷ [])
  one_next new next = in_one_part (new ∷ []) each apart
    where
      each : (p : Pair) → Contains (new ∷ []) p → IsNextPair w v old p
      each p (zero, lt, at) = subst (IsNextPair w v old) at next
      each p (suc k, lt, at) = absurd (omega (arith, lt))

      apart : ArePairsApart (new ∷ [])
      apart i j p q at_i at_j first second = same_place new i j p q at_i at_j

  pub each_by_first : (cases : List Case) (pairs : List Pair) → AreNextStates w old.first cases → AreByFirst cases old.second pairs → (p : Pair) → Contains pairs p → IsNextPair w v old p
  each_by_first cases pairs next by p there =
      let o = of_case (IsByFirst old.second) cases pairs by p there in
      IsNextPair.first (subst (λ (s : SymbolicState). IsNextState w old.first s) (sym o.own.1) (next.each o.c o.there)) o.own.2

  pub apart_by_first : (cases : List Case) (pairs : List Pair) → AreNextStates w old.first cases → AreByFirst cases old.second pairs → ArePairsApart pairs
  apart_by_first cases pairs next by i j p q at_i at_j first second =
      let x = at_case (IsByFirst old.second) cases pairs by i p at_i in
      let y = at_case (IsByFirst old.second) cases pairs by j q at_j in
      next.apart i j x.c y.c x.there y.there (ap (λ (s : SymbolicState). s.steps.items) (sym x.own.1) ∙ first ∙ ap (λ (s : SymbolicState). s.steps.items) y.own.1)

  pub first_next : (cases : List Case) (pairs : List Pair) → AreNextStates w old.first cases → AreByFirst cases old.second pairs → AreNextPairs w v old pairs
  first_next cases pairs next by = in_one_part pairs (each_by_first cases pairs next by) (apart_by_first cases pairs next by)

  pub second_next : (cases : List Case) (pairs : List Pair) → AreNextStates v old.second cases → AreBySecond old.first cases pairs → AreNextPairs w v old pairs
  second_next cases pairs next by = in_one_part pairs each apart
    where
      each : (p : Pair) → Contains pairs p → IsNextPair w v old p
      each p there =
          let o = of_case (IsBySecond old.first) cases pairs by p there in
          IsNextPair.second o.own.2 (subst (λ (s : SymbolicState). IsNextState v old.second s) (sym o.own.1) (next.each o.c o.there))

      apart : ArePairsApart pairs
      apart i j p q at_i at_j first second =
          let x = at_case (IsBySecond old.first) cases pairs by i p at_i in
          let y = at_case (IsBySecond old.first) cases pairs by j q at_j in
          next.apart i j x.c y.c x.there y.there (ap (λ (s : SymbolicState). s.steps.items) (sym x.own.1) ∙ second ∙ ap (λ (s : SymbolicState). s.steps.items) y.own.1)
