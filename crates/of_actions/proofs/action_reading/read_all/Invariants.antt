use Rattle.std.proofs.Common.{length}
use Rattle.of_wire.proofs.Walking.{Going}
use Rattle.of_actions.{specs.Actions.actions_of, proofs.ActionLists.Supported}
use Rattle.of_actions.proofs.action_reading.read_all.Given as goal

abbrev pub invariant-loop-rest : goal.invariant-loop-rest
invariant-loop-rest l = record { going : Going (actions_of l.packet_out) l.bytes l.actions.items l.rest; served : Supported l.packet_out l.actions.items }

abbrev pub decreases-loop-rest : goal.decreases-loop-rest
decreases-loop-rest l = length l.rest
