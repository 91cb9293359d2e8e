use Rattle.of_laws.proofs.AlwaysThere.{always_there}
use Rattle.of_laws.proofs.fields.fields_of_every_frame.Goals as goal

pub returns : goal.returns
returns c = always_there
