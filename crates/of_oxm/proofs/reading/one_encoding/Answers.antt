use Rattle.of_oxm.proofs.Laws.{one_match}
use Rattle.of_oxm.proofs.reading.one_encoding.Goals as goal

pub returns : goal.returns
returns c = one_match
