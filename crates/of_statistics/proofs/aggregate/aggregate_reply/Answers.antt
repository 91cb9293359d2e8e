use Rattle.std.proofs.Common.{arith}
use Rattle.of_statistics.{specs.Flows.aggregate, proofs.Sizes.room, proofs.Sizes.length_aggregate}
use Rattle.of_statistics.proofs.aggregate.aggregate_reply.Goals as goal

pub sealed-requires-clause-short : goal.sealed-requires-clause-short
sealed-requires-clause-short g c = room c.in_ok-out.out.items (aggregate c.totals_in.result) c.put_totals.new.out.items c.in_ok-out.ensures c.in_ok-put_totals.ensures (omega (arith, length_aggregate c.totals_in.result))
