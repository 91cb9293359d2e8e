use Rattle.std.proofs.Common.{◌≡◌, List, ◌∷◌, Option, Some, None, length, drop, map, ap}
use Rattle.std.{specs.Borrow.Bor, specs.Option.MatchOption, specs.Slice.Iter.iter_rest, proofs.lemmas.List.drop_all}
use Rattle.of_symbolic_run.{specs.declared.state.SymbolicTask.SymbolicTask, proofs.Pairing.at_index, proofs.Pairing.no_elements, proofs.Pairing.pairing_decided, proofs.Pairing.pairing_goes_on}
use Rattle.of_alike.proofs.CopyLemmas.{copies_of_keys, key_of_copy, task_key}
use Rattle.of_alike.proofs.continuing.have_equal_tasks.Goals as goal

pub loop-task-preserved : goal.loop-task-preserved
loop-task-preserved c =
    let a = c.args.a.now in
    pairing_goes_on (map task_key a) (map task_key c.args.b.now) (map task_key (drop c.loop-task.task-index a)) (map task_key (iter_rest c.loop-task.others)) c.loop-task.invariant _ (task_key c.in-Some.other.now) _ _
    (ap (map task_key) (at_index a c.loop-task.task-index c.task-item.result c.loop-task-test.true c.task-item.is)) (ap (map task_key) c.in-Some.ensures.steps) (key_of_copy c.task-item.result c.in-Some.other.now (c.is_equal_task.ensures c.if-is_equal_task.true))

tasks_told : (r : Option (Bor SymbolicTask)) (left others : List SymbolicTask) (P : Type 0) → MatchOption r ((length left ≡ 0) × P) (λ x. left ≡ x.now ∷ others) → MatchOption r (length left ≡ 0) (λ x. map task_key left ≡ task_key x.now ∷ map task_key others)
tasks_told None left others P h = h.0
tasks_told (Some x) left others P h = ap (map task_key) h

pub returns : goal.returns
returns c = λ same.
    let a = c.args.a.now in
    let rest = iter_rest c.loop-task.others in
    copies_of_keys a c.args.b.now ((pairing_decided (map task_key a) (map task_key c.args.b.now) (map task_key (drop c.loop-task.task-index a)) (map task_key rest) c.loop-task.invariant (ap (map task_key) (drop_all c.loop-task.task-index a c.loop-task-test.false)) (λ (y : Bor SymbolicTask). task_key y.now) (length rest ≡ 0)
    (λ done. ap (map task_key) (no_elements rest done)) c.next-2.result _ (tasks_told c.next-2.result rest (iter_rest c.next-2.new.self) _ c.next-2.ensures.steps) c.is_none.result c.is_none.ensures).0 same)
