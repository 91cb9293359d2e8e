use Rattle.std.proofs.Common.{refl}
use Rattle.of_laws.proofs.BuildingLemmas.{flow_sound}
use Rattle.of_laws.proofs.building.Listed.push_flow.Goals as goal

pub returns-clause-sound : goal.returns-clause-sound
returns-clause-sound c = flow_sound c.args.self.now _ c.args.flow c.requires.sound c.requires.kept c.in_ok-push-2.ensures.items refl refl
