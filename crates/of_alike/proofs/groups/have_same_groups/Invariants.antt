use Rattle.std.{specs.Slice.Iter.iter_rest, proofs.Common.drop, proofs.Common.map}
use Rattle.of_alike.specs.SameGroups.{group_key}
use Rattle.of_symbolic_run.proofs.Pairing.{SameIfLeft}
use Rattle.of_alike.proofs.groups.have_same_groups.Given as goal

abbrev pub invariant-loop-group : goal.invariant-loop-group
invariant-loop-group l = SameIfLeft (map group_key l.a) (map group_key l.b) (map group_key (drop l.group-index l.a)) (map group_key (iter_rest l.others))
