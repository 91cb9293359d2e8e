use Rattle.of_oxm.proofs.Meant.{normal_is_meant}
use Rattle.of_oxm.proofs.relations.normal_form_is_meant.Goals as goal

pub returns : goal.returns
returns c = normal_is_meant
