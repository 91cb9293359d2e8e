use Rattle.of_diff.proofs.RevealingLemmas.{conditions_more}
use Rattle.of_diff.proofs.revealing.push_condition.Goals as goal

pub returns : goal.returns
returns c = conditions_more c.args.conditions.now.items _ c.args.condition c.in_ok-push.ensures.items c.requires
