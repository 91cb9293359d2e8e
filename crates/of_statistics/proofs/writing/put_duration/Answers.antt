use Rattle.of_statistics.{specs.Durations.duration, proofs.Parts.two_parts}
use Rattle.of_statistics.proofs.writing.put_duration.Goals as goal

pub returns : goal.returns
unfolding duration
returns c = rw (← c.saturating_sub-passed.ensures) (two_parts c.put_u32-2.result _ _ _ _ c.in_ok-put_u32.ensures c.put_u32-2.ensures)
