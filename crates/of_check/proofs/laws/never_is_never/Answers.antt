use Rattle.of_check.proofs.WinnerLemmas.{never_wins}
use Rattle.of_check.proofs.laws.never_is_never.Goals as goal

pub returns : goal.returns
returns c = never_wins
