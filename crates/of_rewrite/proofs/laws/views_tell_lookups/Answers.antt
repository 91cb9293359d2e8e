use Rattle.of_rewrite.proofs.Viewing.{seen}
use Rattle.of_rewrite.proofs.laws.views_tell_lookups.Goals as goal

pub returns-clause-fields : goal.returns-clause-fields
returns-clause-fields c = seen
