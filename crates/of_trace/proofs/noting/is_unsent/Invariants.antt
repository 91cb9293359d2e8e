use Rattle.std.proofs.Common.{◌≡◌, length}
use Rattle.of_trace.specs.Notes.{is_unsent}
use Rattle.of_trace.proofs.noting.is_unsent.Given as goal

abbrev pub invariant-loop-rest : goal.invariant-loop-rest
invariant-loop-rest l = is_unsent l.fn.steps ≡ is_unsent l.rest

abbrev pub decreases-loop-rest : goal.decreases-loop-rest
decreases-loop-rest l = length l.rest
