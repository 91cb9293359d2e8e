use Rattle.of_text.proofs.ConfigLemmas.{canonical_encodes, one_config}
use Rattle.of_text.proofs.disassembling.texts_are_of_configs.Goals as goal

pub returns-clause-canonical : goal.returns-clause-canonical
returns-clause-canonical c = canonical_encodes

pub returns-clause-one : goal.returns-clause-one
returns-clause-one c = one_config
