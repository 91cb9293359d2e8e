use Rattle.of_laws.proofs.ConfigBack.{comes_back}
use Rattle.of_laws.proofs.config_laws.messages_give_it_back.Goals as goal

pub returns : goal.returns
returns c = comes_back
