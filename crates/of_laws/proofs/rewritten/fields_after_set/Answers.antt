use Rattle.of_laws.proofs.Setting.{after_set}
use Rattle.of_laws.proofs.rewritten.fields_after_set.Goals as goal

pub returns : goal.returns
returns c = after_set
