use Rattle.of_switch.proofs.StandingSteps.{flows_changed}
use Rattle.of_switch.proofs.switch_core.Core.modify_flows.Goals as goal

pub invariant_of-self : goal.invariant_of-self
invariant_of-self g c = flows_changed _ _ _ _ _ _ _ _ _ c.modify.ensures.tables c.modify.ensures.err (rw c.in_ok-instructions.ensures (rw (← c.self.view_is) at c.requires.group)) c.self.invariant
