use Rattle.of_oxm.proofs.Related.{covered_matched}
use Rattle.of_oxm.proofs.relations.covered_is_matched.Goals as goal

pub returns : goal.returns
returns c = covered_matched
