use Rattle.of_switch.proofs.StandingSteps.{flow_put}
use Rattle.of_switch.proofs.switch_core.Core.add_flow.Goals as goal

pub invariant_of-self : goal.invariant_of-self
invariant_of-self g c = flow_put _ _ c.flow_from.result _ _ _ _ _ c.add.ensures.tables c.add.ensures.err (rw c.flow_from.ensures (rw (← c.self.view_is) at c.requires.group)) c.self.invariant
