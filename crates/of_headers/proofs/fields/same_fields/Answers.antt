use Rattle.of_headers.proofs.SameFields.{same_key}
use Rattle.of_headers.proofs.fields.same_fields.Goals as goal

pub returns : goal.returns
returns c = same_key
