use Rattle.std.proofs.Common.{arith}
use Rattle.of_statistics.proofs.Sizes.{room}
use Rattle.of_statistics.proofs.ports.port_stats_reply.Goals as goal

pub sealed-requires-clause-short : goal.sealed-requires-clause-short
sealed-requires-clause-short c = room c.in_ok-out.out.items _ c.put_asked_stats.new.out.items c.in_ok-out.ensures c.in_ok-put_asked_stats.ensures.rows (omega (arith, c.in_ok-put_asked_stats.ensures.short))
