use Rattle.std.proofs.Common.{rules}
use Rattle.of_statistics.specs.{Durations.duration, Flows.flow_times}
use Rattle.of_messages.proofs.Appended.{six_or}
use Rattle.of_statistics.proofs.flows.put_times.Goals as goal

pub returns : goal.returns
unfolding flow_times duration
returns c = six_or c.extend_from_slice.result _ _ _ _ _ _ _ _ c.in_ok-put_duration.ensures c.in_ok-put_u16.ensures c.in_ok-put_u16-2.ensures c.in_ok-put_u16-3.ensures (rw c.number.ensures at c.in_ok-put_u16-4.ensures) (search rules)
