use Rattle.of_switch.proofs.StandingSteps.{groups_gone}
use Rattle.of_switch.proofs.switch_core.Core.delete_groups.Goals as goal

pub invariant_of-self-2 : goal.invariant_of-self-2
invariant_of-self-2 g c = groups_gone c.args.which c.in_ok-removal.removal.cause _ _ _ _ _ _ c.in_ok-removal.ensures.cause c.in_ok-delete.ensures.ok c.carry_out.ensures.forwarding c.self.invariant
