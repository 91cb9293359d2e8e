use Rattle.std.proofs.Common.{take}
use Rattle.of_symbolic_run.specs.States.{AreTaskCopies}
use Rattle.of_symbolic_run.proofs.copying.copied_tasks.Given as goal

abbrev pub invariant-loop-task : goal.invariant-loop-task
invariant-loop-task l = AreTaskCopies (take l.task-index l.tasks) l.copies.items
