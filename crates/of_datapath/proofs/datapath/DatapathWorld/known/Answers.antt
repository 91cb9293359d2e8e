use Rattle.of_datapath.proofs.Worlds.{sound_world}
use Rattle.of_datapath.proofs.datapath.DatapathWorld.known.Goals as goal

pub returns : goal.returns
returns g c = sound_world c.args.self.now.tables c.args.self.now.groups c.args.self.now.ports c.known.ensures.distinct c.known.ensures.sound c.known_groups.ensures c.as_slice.ensures.sound.rising
