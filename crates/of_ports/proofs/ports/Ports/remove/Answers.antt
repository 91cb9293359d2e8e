use Rattle.of_ports.proofs.PortLemmas.{sound_without}
use Rattle.of_ports.proofs.ports.Ports.remove.Goals as goal

pub invariant_of-self : goal.invariant_of-self
invariant_of-self c = rw c.remove_port.ensures (sound_without c.args.number c.self.inside.ports.items c.self.invariant)
