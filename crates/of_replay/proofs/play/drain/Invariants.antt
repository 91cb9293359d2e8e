use Rattle.std.proofs.Common.{length}
use Rattle.of_switch.proofs.Draining.{Left}
use Rattle.of_replay.proofs.play.drain.Given as goal

abbrev pub invariant-loop-effects : goal.invariant-loop-effects
invariant-loop-effects g l = Left l.fn.switch l.switch l.effects.items

abbrev pub decreases-loop-effects : goal.decreases-loop-effects
decreases-loop-effects g l = length l.switch.connection.pending
