use Rattle.of_messages.proofs.Appended.{five_or}
use Rattle.of_statistics.specs.{Durations.duration, Ports.port_counts, Ports.port_row}
use Rattle.of_statistics.proofs.ports.put_stats.Goals as goal

pub returns : goal.returns
unfolding port_row port_counts duration
returns c = five_or c.put_duration.result _ _ _ _ _ _ _ c.in_ok-put_u32.ensures c.in_ok-extend_from_slice.ensures.items c.in_ok-put_counters.ensures c.in_ok-extend_from_slice-2.ensures.items c.put_duration.ensures
