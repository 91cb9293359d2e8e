use Rattle.of_check.proofs.Together.{go_together}
use Rattle.of_check.proofs.laws.fields_go_together.Goals as goal

pub returns : goal.returns
returns c = go_together
