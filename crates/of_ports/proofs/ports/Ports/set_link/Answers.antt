use Rattle.of_ports.{specs.declared.editing.Edit.TheVariants.Link, proofs.PortLemmas.sound_at}
use Rattle.of_ports.proofs.ports.Ports.set_link.Goals as goal

pub invariant_of-self : goal.invariant_of-self
invariant_of-self c = rw c.edit_at.ensures (sound_at c.args.number (Link c.args.is_up) c.self.inside.ports.items c.self.invariant)
