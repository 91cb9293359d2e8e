use Rattle.std.proofs.Common.{take}
use Rattle.of_datapath.specs.{Datapath.world_of, Numbers.forwarding_of}
use Rattle.of_require.specs.Deciding.{IsSoughtInSets, found_so_far}
use Rattle.of_require.proofs.packets.seek_in_sets.Given as goal

abbrev pub invariant-loop-set : goal.invariant-loop-set
invariant-loop-set g l = IsSoughtInSets (world_of (forwarding_of l.datapath)) l.requirement l.lines l.steps (take l.set-index l.sets) (found_so_far l.is_known)
