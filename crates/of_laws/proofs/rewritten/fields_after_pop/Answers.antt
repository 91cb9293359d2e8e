use Rattle.of_laws.proofs.Pushing.{tags_popped, after_pop}
use Rattle.of_laws.proofs.rewritten.fields_after_pop.Goals as goal

pub returns-clause-tags : goal.returns-clause-tags
returns-clause-tags c = tags_popped

pub returns-clause-fields : goal.returns-clause-fields
returns-clause-fields c = after_pop
