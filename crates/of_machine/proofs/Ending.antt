-- Steps after steps.
use Rattle.std.proofs.Common.{◌≡◌, ℕ, ◌+◌, suc, zero, List, [], ◌∷◌, refl, sym, ◌∙◌, ap, arith, zero-add}
use Rattle.of_machine.specs.Runs.{Machine, step, first_step, after, or_end, until_none, starting, run_of}
use Rattle.of_machine.specs.{TheWorld.TheWorld, declared.data.Packet.Packet, Rows.Work, Rows.Task, Rows.task, Weights.task_weight}

module _ (w : TheWorld) where
  -- once no packet is left, nothing changes
  stays_first : (m : Machine) (ts : List Task) → m.tasks ≡ ts → ts ≡ [] → step w m ≡ m
  unfolding step
  stays_first m [] e none = ap (first_step w m) e
  stays_first m (t ∷ others) e none = absurd (cc)

  pub settled : (k n : ℕ) (m : Machine) → (after w n m).tasks ≡ [] → after w (k + n) m ≡ after w n m
  unfolding after
  settled zero n m none = ap (λ (i : ℕ). after w i m) (zero-add n)
  settled (suc k) n m none =
      let ih = settled k n m none in
      let same : suc k + n ≡ suc (k + n) = omega arith in
      ap (λ (i : ℕ). after w i m) same ∙ (stays_first (after w (k + n) m) (after w (k + n) m).tasks refl (rw ih none) ∙ ih)

  pub after_plus : (k n : ℕ) (m : Machine) → after w (k + n) m ≡ after w k (after w n m)
  unfolding after
  after_plus zero n m = ap (λ (i : ℕ). after w i m) (zero-add n)
  after_plus (suc k) n m =
      let same : suc k + n ≡ suc (k + n) = omega arith in
      ap (λ (i : ℕ). after w i m) same ∙ ap (step w) (after_plus k n m)

  until_by : (n : ℕ) (m : Machine) (ts : List Task) → m.tasks ≡ ts → ((x : Machine) → until_none w n x ≡ after w n x) → or_end w (until_none w n) m ts ≡ after w (suc n) m
  unfolding after
  until_by n m [] e ih =
      let same : suc n + 0 ≡ suc n = omega arith in
      sym (ap (λ (i : ℕ). after w i m) (sym same) ∙ settled (suc n) 0 m e)
  until_by n m (t ∷ ts) e ih =
      let same : n + 1 ≡ suc n = omega arith in
      ih (step w m) ∙ (sym (after_plus n 1 m) ∙ ap (λ (i : ℕ). after w i m) same)

  -- to stop where no packet is left makes no difference
  pub until_is_after : (n : ℕ) (m : Machine) → until_none w n m ≡ after w n m
  unfolding until_none after
  until_is_after zero m = refl
  until_is_after (suc n) m = until_by n m m.tasks refl (until_is_after n)

  pub run_is_after : (p : Packet) (work : List Work) → run_of w p work ≡ after w (task_weight w (task p work)) (starting p work)
  unfolding run_of
  run_is_after p work = until_is_after (task_weight w (task p work)) (starting p work)
