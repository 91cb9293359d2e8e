use Rattle.std.proofs.Common.{false}
use Rattle.of_text.proofs.KeptLemmas.{action_fits}
use Rattle.of_trace.proofs.words.push_action.Goals as goal

pub push_row-requires : goal.push_row-requires
push_row-requires c = action_fits false c.args.action c.requires
