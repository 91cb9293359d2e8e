-- The steps before a run that was interrupted.
use Rattle.std.proofs.Common.{◌≡◌, ℕ, ◌+◌, ◌-◌, ◌≤◌, suc, zero, Bool, true, List, [], ◌∷◌, ◌++◌, refl, sym, ◌∙◌, ap, append_assoc, arith, zero-add, inl, inr}
use Rattle.std.proofs.{lemmas.List.append-nil, lemmas.Bool.cases_lt}
use Rattle.of_machine.specs.Runs.{Machine, step, first_step, after, starting, run_of, IsPrefixOfRun}
use Rattle.of_machine.specs.{declared.data.Packet.Packet, declared.data.Step.Step, TheWorld.TheWorld, Sound.IsSound, Rows.Work, Rows.Lookup, Rows.Task, Rows.task, Weights.IsFit, Weights.task_weight}
use Rattle.of_machine.proofs.{Ending.settled, Ending.run_is_after, Whole.run_ends, Whole.frame_fits}
use Rattle.of_datapath.specs.DryRun.{GainsPrefix}

-- the lines of the one machine are those of the other and some more
pub record More (old new : List Step) : Type 0 where
  pub rest : List Step
  pub is : new ≡ old ++ rest

module _ (w : TheWorld) where
  first_more : (m : Machine) (ts : List Task) → More m.lines (first_step w m ts).lines
  first_more m [] = record { rest = []; is = sym (append-nil m.lines) }
  first_more m (t ∷ others) = record { rest = _; is = refl }

  step_more : (m : Machine) → More m.lines (step w m).lines
  unfolding step
  step_more m = first_more m m.tasks

  joined : (a b c : List Step) → More a b → More b c → More a c
  joined a b c ab bc = record { rest = ab.rest ++ bc.rest; is = bc.is ∙ (ap (λ (xs : List Step). xs ++ bc.rest) ab.is ∙ append_assoc a ab.rest bc.rest) }

  after_more : (k n : ℕ) (m : Machine) → More (after w n m).lines (after w (k + n) m).lines
  unfolding after
  after_more zero n m = record { rest = []; is = ap (λ (i : ℕ). (after w i m).lines) (zero-add n) ∙ sym (append-nil (after w n m).lines) }
  after_more (suc k) n m =
      let same : suc k + n ≡ suc (k + n) = omega arith in
      let next = step_more (after w (k + n) m) in
      let both = joined (after w n m).lines (after w (k + n) m).lines (step w (after w (k + n) m)).lines (after_more k n m) next in
      record { rest = both.rest; is = ap (λ (i : ℕ). (after w i m).lines) same ∙ both.is }

  at_most : (p : Packet) (work : List Work) (k : ℕ) → k ≤ task_weight w (task p work) → More (after w k (starting p work)).lines (run_of w p work).lines
  at_most p work k le =
      let n = task_weight w (task p work) - k in
      let same : task_weight w (task p work) ≡ n + k = omega arith in
      let more = after_more n k (starting p work) in
      record { rest = more.rest; is = ap (λ (m : Machine). m.lines) (run_is_after w p work) ∙ (ap (λ (i : ℕ). (after w i (starting p work)).lines) same ∙ more.is) }

  at_least : (p : Packet) (work : List Work) (k : ℕ) → IsSound w → IsFit (task p work) → task_weight w (task p work) ≤ k → More (after w k (starting p work)).lines (run_of w p work).lines
  at_least p work k sound fit le =
      let all = task_weight w (task p work) in
      let n = k - all in
      let same : k ≡ n + all = omega arith in
      let none : (after w all (starting p work)).tasks ≡ [] = sym (ap (λ (m : Machine). m.tasks) (run_is_after w p work)) ∙ run_ends w sound p work fit in
      let over : after w k (starting p work) ≡ run_of w p work = ap (λ (i : ℕ). after w i (starting p work)) same ∙ (settled w n all (starting p work) none ∙ sym (run_is_after w p work)) in
      record { rest = []; is = sym (ap (λ (m : Machine). m.lines) over) ∙ sym (append-nil (after w k (starting p work)).lines) }

  pub begins : (p : Packet) (work : List Work) (k : ℕ) → IsSound w → IsFit (task p work) → More (after w k (starting p work)).lines (run_of w p work).lines
  begins p work k sound fit = elim (cases_lt k (task_weight w (task p work))) [
    | inl lt ↦ at_most p work k (omega (arith, lt))
    | inr le ↦ at_least p work k sound fit le
  ]

  -- a frame's run that was interrupted
  pub front_is_prefix : (keeps : Bool) (p : Packet) (old new : List Step) → IsSound w → p.action_set ≡ [] → IsPrefixOfRun w keeps p (Lookup 0 ∷ []) old new → keeps ≡ true → GainsPrefix (run_of w p (Lookup 0 ∷ [])).lines old new
  front_is_prefix keeps p old new sound empty h k =
      let more = begins p (Lookup 0 ∷ []) h.steps sound (frame_fits w sound p empty) in
      record { front = (after w h.steps (starting p (Lookup 0 ∷ []))).lines; rest = more.rest; parts = more.is; gained = h.tells k }
