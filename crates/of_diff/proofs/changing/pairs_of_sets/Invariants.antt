use Rattle.std.proofs.Common.{take}
use Rattle.of_datapath.specs.{Datapath.world_of, Numbers.forwarding_of}
use Rattle.of_machine.specs.TheWorld.{TheWorld}
use Rattle.of_diff.specs.Changing.{ArePairsOf}
use Rattle.of_diff.proofs.changing.pairs_of_sets.Given as goal

abbrev pub invariant-loop-frames : goal.invariant-loop-frames
invariant-loop-frames g l = (v : TheWorld) → ArePairsOf (world_of (forwarding_of l.datapath)) v l.pair (take l.frames-index l.sets) l.pairs.items
