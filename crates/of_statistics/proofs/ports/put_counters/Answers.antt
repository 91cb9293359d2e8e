use Rattle.of_statistics.{specs.Ports.port_counts, proofs.Parts.seven_parts}
use Rattle.of_statistics.proofs.ports.put_counters.Goals as goal

pub returns : goal.returns
unfolding port_counts
returns c = seven_parts c.put_u64-7.result _ _ _ _ _ _ _ _ _ c.in_ok-put_u64.ensures c.in_ok-put_u64-2.ensures c.in_ok-put_u64-3.ensures c.in_ok-put_u64-4.ensures c.in_ok-put_u64-5.ensures c.in_ok-put_u64-6.ensures c.put_u64-7.ensures
