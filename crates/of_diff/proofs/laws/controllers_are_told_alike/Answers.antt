use Rattle.of_diff.proofs.ToldLemmas.{told_alike}
use Rattle.of_diff.proofs.laws.controllers_are_told_alike.Goals as goal

pub returns : goal.returns
returns c = told_alike
