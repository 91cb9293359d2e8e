use Rattle.of_check.proofs.IngressLemmas.{comes_by, drops}
use Rattle.of_check.proofs.laws.nothing_leaves_by_the_ingress_port.Goals as goal

pub returns-clause-drops : goal.returns-clause-drops
returns-clause-drops c = drops

pub returns-clause-came_by : goal.returns-clause-came_by
returns-clause-came_by c = comes_by
