use Rattle.of_datapath.proofs.StandingLemmas.{loaded_stands}
use Rattle.of_switch.proofs.switch_core.Core.load.Goals as goal

pub invariant_of-self : goal.invariant_of-self
invariant_of-self g c = loaded_stands _ _ _ _ _ _ c.known.ensures.config c.in_ok-self-inside.ensures c.in_ok-tables.ensures
