use Rattle.std.proofs.Common.{◌+◌, ℕ, ap, arith, refl}
use Rattle.of_laws.proofs.BuildingLemmas.{group_sound}
use Rattle.of_laws.proofs.building.Listed.push_group.Goals as goal

pub returns-clause-sound : goal.returns-clause-sound
returns-clause-sound c = group_sound c.args.self.now _ c.args.group c.requires.sound (omega (arith, c.if-id-self.false, c.from-id.ensures)) c.requires.fits c.in_ok-push-2.ensures.items refl (ap (λ (k : ℕ). k + 1) c.from-id.ensures)
