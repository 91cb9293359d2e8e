use Rattle.std.proofs.Common.{length}
use Rattle.of_alike.specs.Alike.{leaving}
use Rattle.of_symbolic_run.proofs.Pairing.{SameIfLeft}
use Rattle.of_alike.proofs.alike.is_alike_at.Given as goal

abbrev pub invariant-loop-item : goal.invariant-loop-item
invariant-loop-item l = SameIfLeft (leaving l.at l.a) (leaving l.at l.b) (leaving l.at l.left) (leaving l.at l.right)

abbrev pub decreases-loop-item : goal.decreases-loop-item
decreases-loop-item l = length l.left
