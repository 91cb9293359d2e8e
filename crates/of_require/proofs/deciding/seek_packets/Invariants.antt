use Rattle.std.proofs.Common.{◌≡◌, ◌++◌}
use Rattle.of_datapath.specs.{Datapath.world_of, Numbers.forwarding_of}
use Rattle.of_require.specs.Deciding.{IsSoughtInEach, found_so_far}
use Rattle.of_require.proofs.deciding.seek_packets.Given as goal

abbrev pub invariant-loop-class : goal.invariant-loop-class
invariant-loop-class g l = record {
  parts : l.yielded ++ l.class-iterator.rest.items ≡ l.fn.classes.items;
  sought : IsSoughtInEach (world_of (forwarding_of l.datapath)) l.requirement l.fields l.steps l.yielded (found_so_far l.is_known);
}
