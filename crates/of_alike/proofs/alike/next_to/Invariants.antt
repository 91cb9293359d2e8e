use Rattle.std.proofs.Common.{◌≡◌, ◌≤◌, length}
use Rattle.of_alike.specs.Alike.{leaving}
use Rattle.of_alike.proofs.alike.next_to.Given as goal

abbrev pub invariant-loop-rest : goal.invariant-loop-rest
invariant-loop-rest l = record { same : leaving l.at l.items ≡ leaving l.at l.rest; fewer : length l.rest ≤ length l.items }

abbrev pub decreases-loop-rest : goal.decreases-loop-rest
decreases-loop-rest l = length l.rest
