use Rattle.of_laws.proofs.Setting.{after_decrement}
use Rattle.of_laws.proofs.rewritten.fields_after_ttl_decremented.Goals as goal

pub returns : goal.returns
returns c = after_decrement
