use Rattle.of_alike.proofs.ActionLemmas.{same_actions}
use Rattle.of_alike.proofs.tables.are_same_actions.Goals as goal

pub returns : goal.returns
returns c = same_actions c.args.xs.now c.args.ys.now c.eq.result c.eq.ensures
