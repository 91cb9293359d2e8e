use Rattle.of_switch.proofs.ToldAgain.{told_again}
use Rattle.of_switch.proofs.laws.loaded_is_told.Goals as goal

pub returns : goal.returns
returns c = told_again
