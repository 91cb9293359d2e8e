use Rattle.of_oxm.proofs.Same.{same_fields, same_match}
use Rattle.of_oxm.proofs.flow_match.same_fields.Goals as goal

pub returns-clause-same : goal.returns-clause-same
returns-clause-same c = same_fields c.args.xs.now c.args.ys.now c.eq.result c.eq.ensures

pub returns-clause-value : goal.returns-clause-value
returns-clause-value c = same_match c.args.xs.now c.args.ys.now c.eq.result c.eq.ensures
