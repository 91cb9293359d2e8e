use Rattle.of_datapath.specs.{Datapath.world_of, Numbers.forwarding_of}
use Rattle.of_paths.proofs.SoFarLemmas.{IsRunning}
use Rattle.of_paths.proofs.dividing.paths.Given as goal

abbrev pub invariant-loop-left : goal.invariant-loop-left
invariant-loop-left g l = IsRunning l.merging (world_of (forwarding_of l.datapath)) l.within l.steps l.left l.cases.items l.found

abbrev pub decreases-loop-left : goal.decreases-loop-left
decreases-loop-left g l = l.left
