use Rattle.of_rewrite.proofs.Calling.{all_known}
use Rattle.of_rewrite.proofs.laws.known_stays_right.Goals as goal

pub returns : goal.returns
returns c = all_known
