use Rattle.of_laws.proofs.Setting.{after_ttl}
use Rattle.of_laws.proofs.rewritten.fields_after_ttl.Goals as goal

pub returns : goal.returns
returns c = after_ttl
