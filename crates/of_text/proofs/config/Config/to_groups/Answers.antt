use Rattle.of_groups.specs.Sound.{AreSound}
use Rattle.of_text.{specs.Groups.groups_at, specs.Views.view_groups, proofs.GroupLemmas.config_groups, proofs.SoundLemmas.sound_at}
use Rattle.of_text.proofs.config.Config.to_groups.Goals as goal

pub groups_from-requires : goal.groups_from-requires
groups_from-requires c =
    let sound : AreSound (groups_at c.args.created (view_groups c.self.inside.groups.items)) = sound_at c.args.created 0 _ (config_groups _ c.self.invariant).sound in
    rw c.deref.ensures.value sound.fit

pub of-requires : goal.of-requires
of-requires c =
    let sound : AreSound (groups_at c.args.created (view_groups c.self.inside.groups.items)) = sound_at c.args.created 0 _ (config_groups _ c.self.invariant).sound in
    rw (c.in_ok-groups.ensures, c.deref.ensures.value) sound
