use Rattle.of_ports.proofs.PortLemmas.{sound_with}
use Rattle.of_ports.proofs.ports.Ports.add.Goals as goal

pub invariant_of-self : goal.invariant_of-self
invariant_of-self c = sound_with c.insert_port.result c.args.port c.self.inside.ports.items c.insert_port.new.ports.items c.self.invariant (rw c.self.view_is c.requires.new) (rw c.self.view_is c.requires.room) c.insert_port.ensures.ok c.insert_port.ensures.err
