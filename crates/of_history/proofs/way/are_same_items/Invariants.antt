use Rattle.std.proofs.Common.{◌≡◌, length}
use Rattle.of_history.proofs.way.are_same_items.Given as goal

-- if the rests are alike, all is
abbrev pub invariant-loop-left : goal.invariant-loop-left
invariant-loop-left l = l.left ≡ l.rest → l.a ≡ l.b

abbrev pub decreases-loop-left : goal.decreases-loop-left
decreases-loop-left l = length l.left
