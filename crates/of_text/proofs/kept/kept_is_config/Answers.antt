use Rattle.of_text.proofs.StandLemmas.{kept_config}
use Rattle.of_text.proofs.kept.kept_is_config.Goals as goal

pub returns : goal.returns
returns c = kept_config
