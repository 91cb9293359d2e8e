use Rattle.of_check.proofs.{SilentLemmas.unseen, UsedLemmas.unseen_later}
use Rattle.of_check.proofs.laws.last_actions_are_unseen.Goals as goal

pub returns-clause-silent : goal.returns-clause-silent
returns-clause-silent c = unseen

pub returns-clause-remarked : goal.returns-clause-remarked
returns-clause-remarked c = unseen_later
