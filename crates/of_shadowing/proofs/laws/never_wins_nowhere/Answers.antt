use Rattle.of_shadowing.proofs.PlainLemmas.{wins_nowhere}
use Rattle.of_shadowing.proofs.laws.never_wins_nowhere.Goals as goal

pub returns : goal.returns
returns c = wins_nowhere
