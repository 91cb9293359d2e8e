use Rattle.of_session.proofs.Splitting.{splits_some, splits_only, splits_more}
use Rattle.of_session.proofs.stream.splits_once.Goals as goal

pub returns-clause-one : goal.returns-clause-one
returns-clause-one c = splits_some

pub returns-clause-only : goal.returns-clause-only
returns-clause-only c = splits_only

pub returns-clause-more : goal.returns-clause-more
returns-clause-more c = splits_more
