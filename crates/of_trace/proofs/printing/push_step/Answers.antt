use Rattle.std.proofs.Common.{false}
use Rattle.of_text.proofs.KeptLemmas.{action_fits}
use Rattle.of_trace.proofs.printing.push_step.Goals as goal

pub push_row-requires-in-Act : goal.push_row-requires-in-Act
push_row-requires-in-Act c = action_fits false c.in-Act.action (rw c.in-Act.is at c.requires)
