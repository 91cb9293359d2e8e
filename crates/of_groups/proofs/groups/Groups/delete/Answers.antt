use Rattle.std.{specs.List.list_any, proofs.Common.◌∙◌, proofs.Common.sym, proofs.Common.ap}
use Rattle.of_groups.{specs.Groups.names, proofs.Soundness.sound_none, proofs.Soundness.sound_without}
use Rattle.of_groups.proofs.groups.Groups.delete.Goals as goal

pub invariant_of-self : goal.invariant_of-self
invariant_of-self c = rw c.clear.ensures.items sound_none

pub invariant_of-self-in-Some : goal.invariant_of-self-in-Some
invariant_of-self-in-Some c =
    let unnamed = sym (ap (list_any (names c.in-Some.id)) c.deref.ensures.value) ∙ (sym c.is_named.ensures ∙ c.if-is_named.false) in
    rw c.remove_group.ensures (sound_without c.in-Some.id c.self.inside.groups.items c.self.invariant unnamed)
