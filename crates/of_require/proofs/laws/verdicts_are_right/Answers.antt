use Rattle.of_require.proofs.RightLemmas.{right}
use Rattle.of_require.proofs.laws.verdicts_are_right.Goals as goal

pub returns : goal.returns
returns c w r steps decision is = right w r steps decision is
