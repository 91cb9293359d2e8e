use Rattle.of_oxm.proofs.Laws.{not_both, one_code}
use Rattle.of_oxm.proofs.reading.one_code.Goals as goal

pub returns-clause-encoded : goal.returns-clause-encoded
returns-clause-encoded c = not_both

pub returns-clause-code : goal.returns-clause-code
returns-clause-code c = one_code
