use Rattle.of_switch.proofs.Handling.{refused_alone}
use Rattle.of_switch.proofs.laws.refusal_changes_nothing.Goals as goal

pub returns : goal.returns
returns c = refused_alone
