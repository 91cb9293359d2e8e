use Rattle.std.proofs.Common.{ap}
use Rattle.of_symbolic_run.{specs.PortNumbers.came_in_by, proofs.ConditionLemmas.came_is_condition}
use Rattle.of_symbolic_run.proofs.ports.ingress_condition.Goals as goal

pub returns-clause-conditions : goal.returns-clause-conditions
returns-clause-conditions c = came_is_condition c.args.port c.ranges.port.fits _ (ap came_in_by c.from.ensures)
