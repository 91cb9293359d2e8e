use Rattle.of_action_set.{specs.Storage.stored, proofs.Kinded.few}
use Rattle.of_action_set.proofs.action_set.ActionSet.known.Goals as goal

pub returns-clause-few : goal.returns-clause-few
returns-clause-few c = rw (← c.self.view_is) (few (stored c.self.inside.actions) c.self.invariant.0 c.self.invariant.1)
