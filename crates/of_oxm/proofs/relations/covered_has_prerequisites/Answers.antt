use Rattle.of_oxm.proofs.Covered.{covered_has_prerequisites as by_needs}
use Rattle.of_oxm.proofs.relations.covered_has_prerequisites.Goals as goal

pub returns : goal.returns
returns c = by_needs
