use Rattle.of_laws.proofs.BuiltAgain.{built_again}
use Rattle.of_laws.proofs.config_laws.messages_by_number_build_it.Goals as goal

pub returns : goal.returns
returns c = built_again
