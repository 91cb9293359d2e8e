use Rattle.std.proofs.Common.{◌≡◌, length}
use Rattle.of_alike.specs.Emitting.{AlikeIfRest}
use Rattle.of_alike.proofs.leaving.rests.Given as goal

abbrev pub invariant-loop-behind : goal.invariant-loop-behind
invariant-loop-behind l = record { alike : AlikeIfRest l.a l.b l.left l.right; equal : l.a ≡ l.b → l.left ≡ l.right }

abbrev pub decreases-loop-behind : goal.decreases-loop-behind
decreases-loop-behind l = length l.left
