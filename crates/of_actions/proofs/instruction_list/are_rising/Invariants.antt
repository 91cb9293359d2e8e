use Rattle.std.proofs.Common.{◌≡◌, length}
use Rattle.of_actions.specs.{InstructionLists.run_place, Rising.is_ascending}
use Rattle.of_actions.proofs.instruction_list.are_rising.Given as goal

abbrev pub invariant-loop-rest : goal.invariant-loop-rest
invariant-loop-rest l = is_ascending run_place l.fn.instructions ≡ is_ascending run_place l.rest

abbrev pub decreases-loop-rest : goal.decreases-loop-rest
decreases-loop-rest l = length l.rest
