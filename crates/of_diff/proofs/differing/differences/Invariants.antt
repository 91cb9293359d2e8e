use Rattle.of_datapath.specs.{Datapath.world_of, Numbers.forwarding_of}
use Rattle.of_diff.proofs.FindingLemmas.{IsRunning}
use Rattle.of_diff.proofs.differing.differences.Given as goal

abbrev pub invariant-loop-left : goal.invariant-loop-left
invariant-loop-left g l = IsRunning l.compared (world_of (forwarding_of l.first)) (world_of (forwarding_of l.second)) l.steps l.left l.pairs.items l.so_far

abbrev pub decreases-loop-left : goal.decreases-loop-left
decreases-loop-left g l = l.left
