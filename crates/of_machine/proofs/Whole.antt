-- The end of a run.
use Rattle.std.proofs.Common.{◌≡◌, ℕ, ◌+◌, ◌*◌, ◌-◌, ◌≤◌, ◌==◌, suc, zero, Bool, true, false, List, [], ◌∷◌, ◌++◌, refl, sym, ◌∙◌, ap, length, length-append, arith, add_comm, ◌⊎◌, inl, inr}
use Rattle.std.proofs.Math.Nat.{mul-le-mul_left}
use Rattle.of_wire.specs.declared.limits.TheConstants.{OFPP_TABLE}
use Rattle.of_actions.specs.{declared.action.Action.Action, declared.action.Action.TheVariants.Output, declared.action.Action.TheVariants.Group}
use Rattle.of_machine.specs.Rows.{Work, Lookup, Task, task, row, acts}
use Rattle.of_machine.specs.Weights.{AllFitWork, IsFit, AllFit, copy_steps, action_steps, table_steps, set_steps, lookup_steps, frame_step_bound, packet_out_step_bound, output_weight, act_weight, work_weight, task_weight, weight}
use Rattle.of_machine.specs.Runs.{Machine, step, first_step, after, starting, run_of, IsRun, IsPrefixOfRun}
use Rattle.of_machine.proofs.Weighing.{positive, weight_more, row_lowers, bounded, copies_more, frame_steps}
use Rattle.of_machine.specs.{declared.data.Packet.Packet, declared.data.Step.Step, declared.data.Outcome.Outcome, TheWorld.TheWorld, Sound.longest, Sound.IsSound}
use Rattle.of_machine.proofs.{Sets.empty_set, Reaching.Came, Ending.settled, Ending.run_is_after}

module _ (w : TheWorld) where
  -- a number of steps that leaves no packet is the run, where the packet's weight is no less
  pub run_is_short : (p : Packet) (work : List Work) (k : ℕ) → k ≤ task_weight w (task p work) → (after w k (starting p work)).tasks ≡ [] → run_of w p work ≡ after w k (starting p work)
  run_is_short p work k le none =
      let n = task_weight w (task p work) - k in
      let same : task_weight w (task p work) ≡ n + k = omega arith in
      run_is_after w p work ∙ ap (λ (i : ℕ). after w i (starting p work)) same ∙ settled w n k (starting p work) none

  none_weighs : (ts : List Task) → weight w ts ≡ 0 → ts ≡ []
  none_weighs [] e = refl
  none_weighs (t ∷ others) e = let x = positive w t.packet.action_set t.work in absurd (omega arith)

  none_later : (k : ℕ) (m : Machine) → (after w k m).tasks ≡ [] → (after w (suc k) m).tasks ≡ []
  none_later k m none = let same : suc k ≡ 1 + k = omega arith in ap (λ (i : ℕ). (after w i m).tasks) same ∙ (ap (λ (x : Machine). x.tasks) (settled w 1 k m none) ∙ none)

  module _ (sound : IsSound w) where
    first_lowers : (m : Machine) (ts : List Task) → AllFit ts → (ts ≡ []) ⊎ (weight w (first_step w m ts).tasks + 1 ≤ weight w ts)
    first_lowers m [] fit = inl refl
    first_lowers m (t ∷ others) fit =
        let x = row_lowers w sound t.packet t.work fit.0.set fit.0.work in
        let y = weight_more w sound (row w t.packet t.work).left others in
        inr (omega arith)

    pub step_lowers : (m : Machine) → AllFit m.tasks → (m.tasks ≡ []) ⊎ (weight w (step w m).tasks + 1 ≤ weight w m.tasks)
    unfolding step
    step_lowers m fit = first_lowers m m.tasks fit

    joined : (k : ℕ) (m : Machine) → ((after w k m).tasks ≡ []) ⊎ (weight w (after w k m).tasks + k ≤ weight w m.tasks) → ((after w k m).tasks ≡ []) ⊎ (weight w (after w (suc k) m).tasks + 1 ≤ weight w (after w k m).tasks) → ((after w (suc k) m).tasks ≡ []) ⊎ (weight w (after w (suc k) m).tasks + suc k ≤ weight w m.tasks)
    joined k m before (inl none) = inl (none_later k m none)
    joined k m (inl none) (inr lower) = inl (none_later k m none)
    joined k m (inr le) (inr lower) = inr (omega (arith, le, lower))

    lowered : (k : ℕ) (m : Machine) → AllFit m.tasks → ((after w k m).tasks ≡ []) ⊎ (weight w (after w k m).tasks + k ≤ weight w m.tasks)
    unfolding after
    lowered zero m fit = inr (omega arith)
    lowered (suc k) m fit = joined k m (lowered k m fit) (step_lowers (after w k m) (bounded w sound k m fit).0)

    over : (k : ℕ) (m : Machine) → weight w m.tasks ≤ k → ((after w k m).tasks ≡ []) ⊎ (weight w (after w k m).tasks + k ≤ weight w m.tasks) → (after w k m).tasks ≡ []
    over k m le (inl none) = none
    over k m le (inr lower) = none_weighs (after w k m).tasks (omega (arith, le, lower))

    pub ends_at : (k : ℕ) (m : Machine) → AllFit m.tasks → weight w m.tasks ≤ k → (after w k m).tasks ≡ []
    ends_at k m fit le = over k m le (lowered k m fit)

    pub run_ends : (p : Packet) (work : List Work) → IsFit (task p work) → (run_of w p work).tasks ≡ []
    run_ends p work fit = rw (run_is_after w p work) (ends_at (task_weight w (task p work)) (starting p work) (fit, tt) (omega arith))

    -- whatever number of steps leaves no packet, it is the run
    pub run_is : (p : Packet) (work : List Work) (n : ℕ) → IsFit (task p work) → (after w n (starting p work)).tasks ≡ [] → run_of w p work ≡ after w n (starting p work)
    run_is p work n fit none =
        let start = starting p work in
        let k = task_weight w (task p work) in
        run_is_after w p work ∙ sym (settled w n k start (ends_at k start (fit, tt) (omega arith))) ∙ (ap (λ (i : ℕ). after w i start) (add_comm n k) ∙ settled w k n start none)

    pub is_run : (keeps : Bool) (p : Packet) (work : List Work) (o : Outcome) (old new : List Step) → IsFit (task p work) → Came w keeps p work o old new → IsRun w keeps p work o old new
    is_run keeps p work o old new fit h = record {
      lines = h.lines;
      run = run_is p work h.steps fit (ap (λ (x : Machine). x.tasks) h.run) ∙ h.run;
      tells = h.tells;
    }

    -- ---- how many lines

    pub lines_few : (p : Packet) (work : List Work) (k : ℕ) → IsFit (task p work) → length (after w k (starting p work)).lines ≤ task_weight w (task p work)
    lines_few p work k fit = let x = (bounded w sound k (starting p work) (fit, tt)).1 in omega arith

    pub frame_fits : (p : Packet) → p.action_set ≡ [] → IsFit (task p (Lookup 0 ∷ []))
    frame_fits p empty = record { set = rw empty empty_set; work = (omega arith, tt) }

    pub acts_fit : (l : List Action) → AllFitWork (acts l)
    acts_fit [] = tt
    acts_fit (a ∷ l) = (tt, acts_fit l)

    pub actions_fit : (p : Packet) (l : List Action) → p.action_set ≡ [] → IsFit (task p (acts l))
    actions_fit p l empty = record { set = rw empty empty_set; work = acts_fit l }

    output_heavy : (port : ℕ) (b : Bool) → (port == OFPP_TABLE) ≡ b → output_weight port ≤ 1 + lookup_steps longest 0
    output_heavy port true e = rw e (omega arith)
    output_heavy port false e = rw e (omega arith)

    small_copy : 16 * copy_steps longest ≤ lookup_steps longest 0
    unfolding copy_steps action_steps table_steps set_steps lookup_steps
    small_copy = omega arith

    act_heavy : (a : Action) → act_weight w a ≤ 1 + lookup_steps longest 0
    act_heavy (Output port max_len) = output_heavy port (port == OFPP_TABLE) refl
    act_heavy (Group g) = let x = copies_more (w.chain g) longest (sound.short g) in let y = small_copy in omega arith
    act_heavy other = omega arith

    acts_heavy : (l : List Action) (s : List Action) → work_weight w s (acts l) ≤ (1 + lookup_steps longest 0) * length l + 1
    acts_heavy [] s = omega arith
    acts_heavy (a ∷ l) s = let x = act_heavy a in let ih = acts_heavy l s in omega arith

    pub action_lines : (p : Packet) (l : List Action) (k : ℕ) → p.action_set ≡ [] → length l ≤ 64 → length (after w k (starting p (acts l))).lines ≤ 64 * lookup_steps longest 0 + 65
    action_lines p l k empty few =
        let x = lines_few p (acts l) k (actions_fit p l empty) in
        let y = acts_heavy l p.action_set in
        omega (arith, x, y, mul-le-mul_left (1 + lookup_steps longest 0) few)

    -- ---- how many steps a log gains

    gained : (lines old new : List Step) (n : ℕ) → new ≡ old ++ lines → length lines ≤ n → length new ≤ length old + n
    gained lines old new n e le = let whole = length-append old lines in let same = ap length e in omega (arith, whole, same, le)

    front_gains : (n : ℕ) (keeps : Bool) (p : Packet) (work : List Work) (old new : List Step) → ((k : ℕ) → length (after w k (starting p work)).lines ≤ n) → IsPrefixOfRun w keeps p work old new → keeps ≡ true → length new ≤ length old + n
    front_gains n keeps p work old new few h k = gained (after w h.steps (starting p work)).lines old new n (h.tells k) (few h.steps)

    run_gains : (n : ℕ) (keeps : Bool) (p : Packet) (work : List Work) (o : Outcome) (old new : List Step) → ((k : ℕ) → length (after w k (starting p work)).lines ≤ n) → IsRun w keeps p work o old new → keeps ≡ true → length new ≤ length old + n
    run_gains n keeps p work o old new few h k =
        let same : h.lines ≡ (after w (task_weight w (task p work)) (starting p work)).lines = sym (ap (λ (m : Machine). m.lines) h.run) ∙ ap (λ (m : Machine). m.lines) (run_is_after w p work) in
        let le = few (task_weight w (task p work)) in
        gained h.lines old new n (h.tells k) (omega (arith, ap length same, le))

    frame_few : (p : Packet) (k : ℕ) → p.action_set ≡ [] → length (after w k (starting p (Lookup 0 ∷ []))).lines ≤ frame_step_bound
    frame_few p k empty = let le = lines_few p (Lookup 0 ∷ []) k (frame_fits p empty) in let steps = frame_steps in omega (arith, le, steps)

    actions_few : (p : Packet) (l : List Action) (k : ℕ) → p.action_set ≡ [] → length l ≤ 64 → length (after w k (starting p (acts l))).lines ≤ packet_out_step_bound
    actions_few p l k empty few = let le = action_lines p l k empty few in let steps = frame_steps in omega (arith, le, steps)

    pub frame_front : (keeps : Bool) (p : Packet) (old new : List Step) → p.action_set ≡ [] → IsPrefixOfRun w keeps p (Lookup 0 ∷ []) old new → keeps ≡ true → length new ≤ length old + frame_step_bound
    frame_front keeps p old new empty h = front_gains frame_step_bound keeps p (Lookup 0 ∷ []) old new (λ k. frame_few p k empty) h

    pub frame_run : (keeps : Bool) (p : Packet) (o : Outcome) (old new : List Step) → p.action_set ≡ [] → IsRun w keeps p (Lookup 0 ∷ []) o old new → keeps ≡ true → length new ≤ length old + frame_step_bound
    frame_run keeps p o old new empty h = run_gains frame_step_bound keeps p (Lookup 0 ∷ []) o old new (λ k. frame_few p k empty) h

    pub actions_front : (keeps : Bool) (p : Packet) (l : List Action) (old new : List Step) → p.action_set ≡ [] → length l ≤ 64 → IsPrefixOfRun w keeps p (acts l) old new → keeps ≡ true → length new ≤ length old + packet_out_step_bound
    actions_front keeps p l old new empty few h = front_gains packet_out_step_bound keeps p (acts l) old new (λ k. actions_few p l k empty few) h

    pub actions_run : (keeps : Bool) (p : Packet) (l : List Action) (o : Outcome) (old new : List Step) → p.action_set ≡ [] → length l ≤ 64 → IsRun w keeps p (acts l) o old new → keeps ≡ true → length new ≤ length old + packet_out_step_bound
    actions_run keeps p l o old new empty few h = run_gains packet_out_step_bound keeps p (acts l) o old new (λ k. actions_few p l k empty few) h

-- ---- what a run gave

pub items_of : (w : TheWorld) (keeps : Bool) (p : Packet) (work : List Work) (o : Outcome) (old new : List Step) → IsRun w keeps p work o old new → o.items.items ≡ (run_of w p work).items
items_of w keeps p work o old new h = sym (ap (λ (m : Machine). m.items) h.run)

pub counts_of : (w : TheWorld) (keeps : Bool) (p : Packet) (work : List Work) (o : Outcome) (old new : List Step) → IsRun w keeps p work o old new → o.counts.items ≡ (run_of w p work).counts
counts_of w keeps p work o old new h = sym (ap (λ (m : Machine). m.counts) h.run)

pub lines_of : (w : TheWorld) (keeps : Bool) (p : Packet) (work : List Work) (o : Outcome) (old new : List Step) → IsRun w keeps p work o old new → keeps ≡ true → new ≡ old ++ (run_of w p work).lines
lines_of w keeps p work o old new h k = h.tells k ∙ ap (λ (ls : List Step). old ++ ls) (sym (ap (λ (m : Machine). m.lines) h.run))

pub run_unfolds : (w : TheWorld) (p : Packet) (work : List Work) → run_of w p work ≡ after w (task_weight w (task p work)) (starting p work)
run_unfolds w p work = run_is_after w p work
