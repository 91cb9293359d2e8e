use Rattle.std.proofs.Common.{arith}
use Rattle.of_statistics.{specs.Groups.group_features_body, proofs.Sizes.room, proofs.Sizes.length_features}
use Rattle.of_statistics.proofs.groups.group_features_reply.Goals as goal

pub sealed-requires-clause-short : goal.sealed-requires-clause-short
sealed-requires-clause-short c = room c.in_ok-out.out.items group_features_body c.put_features.new.out.items c.in_ok-out.ensures c.in_ok-put_features.ensures (omega (arith, length_features))
