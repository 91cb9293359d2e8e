use Rattle.of_machine.proofs.Promises.{tag_type, settable, value_fits}
use Rattle.of_machine.proofs.packet_frame.rewrite_frame.Goals as goal

pub push_vlan-requires : goal.push_vlan-requires
push_vlan-requires c = tag_type c.in-PushVlan.tpid (rw c.in-PushVlan.is at c.requires)

pub set-requires-clause-settable : goal.set-requires-clause-settable
set-requires-clause-settable c = settable c.in-SetField.field c.in-SetField.value (rw c.in-SetField.is at c.requires)

pub set-requires-clause-fits : goal.set-requires-clause-fits
set-requires-clause-fits c = value_fits c.in-SetField.field c.in-SetField.value (rw c.in-SetField.is at c.requires)
