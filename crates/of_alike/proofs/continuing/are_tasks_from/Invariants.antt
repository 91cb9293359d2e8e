use Rattle.std.proofs.Common.{drop}
use Rattle.of_alike.specs.Agreeing.{StayFrom}
use Rattle.of_alike.proofs.continuing.are_tasks_from.Given as goal

abbrev pub invariant-loop-task : goal.invariant-loop-task
invariant-loop-task l = StayFrom l.table (drop l.task-index l.tasks) → StayFrom l.table l.tasks
