use Rattle.std.proofs.Common.{length}
use Rattle.of_alike.specs.Emitting.{EmitAlikeAt}
use Rattle.of_alike.proofs.sending.emit_alike_at.Given as goal

abbrev pub invariant-loop-emission : goal.invariant-loop-emission
invariant-loop-emission l = EmitAlikeAt l.ingress l.at l.left l.right → EmitAlikeAt l.ingress l.at l.a l.b

abbrev pub decreases-loop-emission : goal.decreases-loop-emission
decreases-loop-emission l = length l.left
