use Rattle.std.proofs.Common.{arith}
use Rattle.of_statistics.{specs.Descriptions.description, proofs.Sizes.room, proofs.Sizes.length_description}
use Rattle.of_statistics.proofs.description.description_reply.Goals as goal

pub sealed-requires-clause-short : goal.sealed-requires-clause-short
sealed-requires-clause-short c = room c.in_ok-out.out.items description c.put_description.new.out.items c.in_ok-out.ensures c.in_ok-put_description.ensures (omega (arith, length_description))
