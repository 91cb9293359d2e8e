use Rattle.of_statistics.specs.Flows.{flow_counts}
use Rattle.of_messages.proofs.Appended.{three_parts}
use Rattle.of_statistics.proofs.flows.put_counts.Goals as goal

pub returns : goal.returns
unfolding flow_counts
returns c = three_parts c.put_u64-3.result _ _ _ _ _ c.in_ok-put_u64.ensures c.in_ok-put_u64-2.ensures c.put_u64-3.ensures
