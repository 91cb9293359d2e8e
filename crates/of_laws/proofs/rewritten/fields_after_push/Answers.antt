use Rattle.of_laws.proofs.Pushing.{tags_pushed, after_push}
use Rattle.of_laws.proofs.rewritten.fields_after_push.Goals as goal

pub returns-clause-tags : goal.returns-clause-tags
returns-clause-tags c = tags_pushed

pub returns-clause-fields : goal.returns-clause-fields
returns-clause-fields c = after_push
