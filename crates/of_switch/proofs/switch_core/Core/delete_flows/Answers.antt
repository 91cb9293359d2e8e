use Rattle.of_switch.proofs.StandingSteps.{removal_stands}
use Rattle.of_switch.proofs.switch_core.Core.delete_flows.Goals as goal

pub invariant_of-self : goal.invariant_of-self
invariant_of-self g c = removal_stands c.in_ok-removal.removal.cause _ _ c.carry_out.ensures.forwarding c.self.invariant
