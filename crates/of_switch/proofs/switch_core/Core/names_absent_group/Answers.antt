use Rattle.of_switch.proofs.switch_core.Core.names_absent_group.Goals as goal

pub returns : goal.returns
returns g c = rw (← c.self.view_is, ← c.as_slice.ensures.instructions) c.names_absent_group.ensures
