use Rattle.of_switch.proofs.Joining.{two_chunks}
use Rattle.of_switch.proofs.laws.two_chunks.Goals as goal

pub returns : goal.returns
returns c = two_chunks
