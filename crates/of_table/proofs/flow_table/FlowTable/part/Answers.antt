use Rattle.of_table.proofs.flow_table.FlowTable.part.Goals as goal

pub returns : goal.returns
returns g c = rw (← c.self.view_is) c.self.invariant.0
