use Rattle.std.{specs.Slice.Iter.iter_rest, proofs.Common.drop, proofs.Common.map}
use Rattle.of_symbolic_run.proofs.Pairing.{SameIfLeft}
use Rattle.of_alike.proofs.CopyLemmas.{task_key}
use Rattle.of_alike.proofs.continuing.have_equal_tasks.Given as goal

abbrev pub invariant-loop-task : goal.invariant-loop-task
invariant-loop-task l = SameIfLeft (map task_key l.a) (map task_key l.b) (map task_key (drop l.task-index l.a)) (map task_key (iter_rest l.others))
