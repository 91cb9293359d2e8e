use Rattle.of_datapath.proofs.Looking.{sound_by_places}
use Rattle.of_datapath.proofs.dry_run.LookingWorld.known.Goals as goal

pub returns : goal.returns
returns g c = sound_by_places c.args.self.now.datapath.now.tables c.args.self.now.datapath.now.groups c.args.self.now.datapath.now.ports c.known.ensures.sound c.known_groups.ensures c.as_slice.ensures.sound.rising
