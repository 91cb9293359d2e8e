use Rattle.std.proofs.Common.{length, map}
use Rattle.of_symbolic_run.specs.States.{work_for}
use Rattle.of_alike.specs.Agreeing.{WorkFrom}
use Rattle.of_alike.proofs.continuing.are_works_from.Given as goal

abbrev pub invariant-loop-rest : goal.invariant-loop-rest
invariant-loop-rest l = WorkFrom l.table (map work_for l.rest) → WorkFrom l.table (map work_for l.works)

abbrev pub decreases-loop-rest : goal.decreases-loop-rest
decreases-loop-rest l = length l.rest
