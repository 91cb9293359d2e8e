-- The run of each frame after one more step.
use Rattle.std.proofs.Common.{◌≡◌, ◌<◌, ◌+◌, ℕ, suc, List, [], ◌∷◌, ◌++◌, length, get_or, take, refl, sym, ◌∙◌, ap, subst}
use Rattle.std.{specs.Prelude.map, proofs.lemmas.List.take_more}
use Rattle.of_machine.specs.Rows.{Work, Lookup, Task, task, row, entering}
use Rattle.of_machine.specs.Runs.{Machine, after, run_of, step, starting}
use Rattle.of_machine.specs.{declared.data.Packet.Packet, declared.data.Item.Item, declared.data.Step.Step, TheWorld.TheWorld, Sound.IsSound}
use Rattle.of_machine.proofs.Whole.{frame_fits, run_is}
use Rattle.of_symbolic_run.specs.States.{Advances, AreTaskCopies, IsAt, IsStateCopy, IsTaskCopy, TakesStep, TellsAdvance, TellsStep, items_for, packet_for, row_for, task_for, work_for}
use Rattle.of_symbolic_run.specs.{declared.advance.Advance.Advance, declared.state.SymbolicTask.SymbolicTask, declared.state.SymbolicState.SymbolicState, declared.state.Emission.Emission}
use Rattle.of_symbolic_run.specs.declared.advance.Advance.TheVariants as advances

after_next : (w : TheWorld) (n : ℕ) (m : Machine) → after w (suc n) m ≡ step w (after w n m)
unfolding after
after_next w n m = refl

one_step : (w : TheWorld) (m : Machine) (p : Packet) (work : List Work) (others : List Task) → m.tasks ≡ task p work ∷ others →
    ((step w m).tasks ≡ (row w p work).left ++ others) × ((step w m).items ≡ m.items ++ (row w p work).items) × ((step w m).lines ≡ m.lines ++ (row w p work).line ∷ [])
unfolding step
one_step w m p work others h = rw h (refl, refl, refl)

step_at : (w : TheWorld) (frame : List ℕ) (port : ℕ) (ts : List SymbolicTask) (e : List Emission) (l : List Step) (new : SymbolicState) → TakesStep ts e new.tasks.items new.emitted.items → TellsStep ts l new.steps.items → (n : ℕ) →
    (after w n (starting (entering frame port) (Lookup 0 ∷ []))).tasks ≡ map (task_for frame port) ts → (after w n (starting (entering frame port) (Lookup 0 ∷ []))).items ≡ items_for w.ports e frame port →
    (after w n (starting (entering frame port) (Lookup 0 ∷ []))).lines ≡ l → IsAt w frame port new
step_at w frame port [] e l new h k n tasks items lines = record { steps = n; tasks = rw h.0 tasks; items = rw h.1 items; lines = rw k lines }
step_at w frame port (t ∷ ts) e l new h k n tasks items lines =
    let m = after w n (starting (entering frame port) (Lookup 0 ∷ [])) in
    let next = after_next w n (starting (entering frame port) (Lookup 0 ∷ [])) in
    let one = one_step w m (packet_for t.packet frame port) (map work_for t.work.items) (map (task_for frame port) ts) tasks in
    record {
      steps = suc n;
      tasks = ap (λ (x : Machine). x.tasks) next ∙ one.0 ∙ sym (h w frame port).0;
      items = ap (λ (x : Machine). x.items) next ∙ one.1 ∙ ap (λ (is : List Item). is ++ (row_for w frame port t).items) items ∙ sym (h w frame port).1;
      lines = ap (λ (x : Machine). x.lines) next ∙ one.2 ∙ ap (λ (ls : List Step). ls ++ (row_for w frame port t).line ∷ []) lines ∙ sym (k w frame port);
    }

pub advances_at : (a : Advance) (w : TheWorld) (frame : List ℕ) (port : ℕ) (old new : SymbolicState) → Advances a old.tasks.items old.emitted.items new.tasks.items new.emitted.items → TellsAdvance a old.tasks.items old.steps.items new.steps.items → IsAt w frame port old → IsAt w frame port new
advances_at advances.Done w frame port old new h k at = step_at w frame port old.tasks.items old.emitted.items old.steps.items new h k at.steps at.tasks at.items at.lines
advances_at other w frame port old new h k at = record { steps = at.steps; tasks = rw h.0 at.tasks; items = rw h.1 at.items; lines = rw k at.lines }

-- one step takes the row of the first packet
pub taken_at : (w : TheWorld) (frame : List ℕ) (port : ℕ) (old new : SymbolicState) (t : SymbolicTask) (rest : List SymbolicTask) → old.tasks.items ≡ t ∷ rest → map (task_for frame port) new.tasks.items ≡ (row_for w frame port t).left ++ map (task_for frame port) rest →
    items_for w.ports new.emitted.items frame port ≡ items_for w.ports old.emitted.items frame port ++ (row_for w frame port t).items → new.steps.items ≡ old.steps.items ++ (row_for w frame port t).line ∷ [] → IsAt w frame port old → IsAt w frame port new
taken_at w frame port old new t rest first left items lines at =
    let start = starting (entering frame port) (Lookup 0 ∷ []) in
    let m = after w at.steps start in
    let one = one_step w m (packet_for t.packet frame port) (map work_for t.work.items) (map (task_for frame port) rest) (at.tasks ∙ ap (map (task_for frame port)) first) in
    record {
      steps = suc at.steps;
      tasks = ap (λ (x : Machine). x.tasks) (after_next w at.steps start) ∙ one.0 ∙ sym left;
      items = ap (λ (x : Machine). x.items) (after_next w at.steps start) ∙ one.1 ∙ ap (λ (l : List Item). l ++ (row_for w frame port t).items) at.items ∙ sym items;
      lines = ap (λ (x : Machine). x.lines) (after_next w at.steps start) ∙ one.2 ∙ ap (λ (l : List Step). l ++ (row_for w frame port t).line ∷ []) at.lines ∙ sym lines;
    }

-- ---- copies

copied_more : (ts copies : List SymbolicTask) (t copy : SymbolicTask) → AreTaskCopies ts copies → IsTaskCopy t copy → AreTaskCopies (ts ++ t ∷ []) (copies ++ copy ∷ [])
copied_more [] [] t copy are one = (one, tt)
copied_more [] (c ∷ copies) t copy are one = absurd are
copied_more (x ∷ ts) [] t copy are one = absurd are
copied_more (x ∷ ts) (c ∷ copies) t copy are one = (are.0, copied_more ts copies t copy are.1 one)

pub one_copied : (ts : List SymbolicTask) (i : ℕ) (t : SymbolicTask) (copies : List SymbolicTask) (copy : SymbolicTask) → t ≡ get_or ts i t → i < length ts → AreTaskCopies (take i ts) copies → IsTaskCopy t copy → AreTaskCopies (take (i + 1) ts) (copies ++ copy ∷ [])
one_copied ts i t copies copy is lt are one =
    let more : take (i + 1) ts ≡ take i ts ++ t ∷ [] = take_more ts i t lt ∙ ap (λ (z : SymbolicTask). take i ts ++ z ∷ []) (sym is) in
    subst (λ (xs : List SymbolicTask). AreTaskCopies xs (copies ++ copy ∷ [])) (sym more) (copied_more (take i ts) copies t copy are one)

-- a copy says the same about each frame
pub same_tasks : (frame : List ℕ) (port : ℕ) (ts copies : List SymbolicTask) → AreTaskCopies ts copies → map (task_for frame port) copies ≡ map (task_for frame port) ts
same_tasks frame port [] [] are = refl
same_tasks frame port [] (c ∷ copies) are = absurd are
same_tasks frame port (t ∷ ts) [] are = absurd are
same_tasks frame port (t ∷ ts) (c ∷ copies) are =
    let first : task_for frame port c ≡ task_for frame port t = rw (are.0.0, are.0.1) refl in
    ap (λ (x : Task). x ∷ map (task_for frame port) copies) first ∙ ap (λ (xs : List Task). task_for frame port t ∷ xs) (same_tasks frame port ts copies are.1)

pub copied_at : (w : TheWorld) (frame : List ℕ) (port : ℕ) (s copy : SymbolicState) → IsStateCopy s copy → IsAt w frame port s → IsAt w frame port copy
copied_at w frame port s copy h at = record { steps = at.steps; tasks = at.tasks ∙ sym (same_tasks frame port s.tasks.items copy.tasks.items h.0); items = at.items ∙ ap (λ (es : List Emission). items_for w.ports es frame port) (sym h.1); lines = at.lines ∙ sym h.2 }

-- ---- the first state

pub begins_at : (w : TheWorld) (frame : List ℕ) (port : ℕ) (new : SymbolicState) → map (task_for frame port) new.tasks.items ≡ task (entering frame port) (Lookup 0 ∷ []) ∷ [] → new.emitted.items ≡ [] → new.steps.items ≡ [] → IsAt w frame port new
unfolding after
begins_at w frame port new tasks emitted steps = record { steps = 0; tasks = sym tasks; items = rw emitted refl; lines = sym steps }

-- ---- the last state

run_ended : (w : TheWorld) (frame : List ℕ) (port : ℕ) (s : SymbolicState) → IsSound w → (at : IsAt w frame port s) → s.tasks.items ≡ [] → run_of w (entering frame port) (Lookup 0 ∷ []) ≡ after w at.steps (starting (entering frame port) (Lookup 0 ∷ []))
run_ended w frame port s sound at none =
    let p = entering frame port in
    let over : (after w at.steps (starting p (Lookup 0 ∷ []))).tasks ≡ [] = at.tasks ∙ ap (map (task_for frame port)) none in
    run_is w sound p (Lookup 0 ∷ []) at.steps (frame_fits w sound p refl) over

pub ended : (w : TheWorld) (frame : List ℕ) (port : ℕ) (s : SymbolicState) → IsSound w → IsAt w frame port s → s.tasks.items ≡ [] → (run_of w (entering frame port) (Lookup 0 ∷ [])).items ≡ items_for w.ports s.emitted.items frame port
ended w frame port s sound at none = ap (λ (m : Machine). m.items) (run_ended w frame port s sound at none) ∙ at.items

pub ended_lines : (w : TheWorld) (frame : List ℕ) (port : ℕ) (s : SymbolicState) → IsSound w → IsAt w frame port s → s.tasks.items ≡ [] → (run_of w (entering frame port) (Lookup 0 ∷ [])).lines ≡ s.steps.items
ended_lines w frame port s sound at none = ap (λ (m : Machine). m.lines) (run_ended w frame port s sound at none) ∙ at.lines
