use Rattle.std.proofs.Common.{rules}
use Rattle.of_messages.proofs.Appended.{four_parts}
use Rattle.of_statistics.specs.Flows.{aggregate}
use Rattle.of_statistics.proofs.aggregate.put_totals.Goals as goal

pub returns : goal.returns
unfolding aggregate
returns c = four_parts c.extend_from_slice.result _ _ _ _ _ _ c.in_ok-put_u64.ensures c.in_ok-put_u64-2.ensures c.in_ok-put_u32.ensures (search rules)
