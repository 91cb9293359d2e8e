use Rattle.of_switch.proofs.GoingOn.{whole, again}
use Rattle.of_switch.proofs.laws.interrupted_events_go_on.Goals as goal

pub returns-clause-happened : goal.returns-clause-happened
returns-clause-happened c = whole

pub returns-clause-again : goal.returns-clause-again
returns-clause-again c = again
