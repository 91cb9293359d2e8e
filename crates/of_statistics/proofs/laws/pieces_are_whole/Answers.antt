use Rattle.of_statistics.proofs.Cutting.{cut, fit, joined}
use Rattle.of_statistics.proofs.laws.pieces_are_whole.Goals as goal

pub returns-clause-cut : goal.returns-clause-cut
returns-clause-cut c = cut

pub returns-clause-joined : goal.returns-clause-joined
returns-clause-joined c = joined

pub returns-clause-fits : goal.returns-clause-fits
returns-clause-fits c = fit
