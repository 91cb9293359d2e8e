use Rattle.std.proofs.Common.{◌≡◌, length, map}
use Rattle.of_history.specs.Ways.{found_step}
use Rattle.of_history.proofs.way.are_found.Given as goal

-- if the rests are alike, all is
abbrev pub invariant-loop-left : goal.invariant-loop-left
invariant-loop-left g l = l.left ≡ map (found_step l.switch.core.forwarding) l.rest → l.found ≡ map (found_step l.switch.core.forwarding) l.steps

abbrev pub decreases-loop-left : goal.decreases-loop-left
decreases-loop-left g l = length l.left
