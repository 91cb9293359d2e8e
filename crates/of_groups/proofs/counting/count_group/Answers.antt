use Rattle.std.proofs.Common.{◌∙◌, sym, ap, eqb, ◌+◌, ◌%◌, ◌^◌}
use Rattle.std.specs.Prelude.{position}
use Rattle.of_groups.{specs.declared.group.Group.Group, proofs.CountLemmas.changed_place, proofs.CountLemmas.unchanged_at}
use Rattle.of_groups.proofs.counting.count_group.Goals as goal

pub returns-in-None : goal.returns-in-None
returns-in-None c =
    unchanged_at c.args.id (λ (g : Group). record g { packets = (g.packets + 1) % 2 ^ 64; bytes = (g.bytes + c.args.bytes) % 2 ^ 64 }) c.args.groups.now.items
    (sym (ap (position (λ (g : Group). eqb g.id c.args.id)) c.deref.ensures.value) ∙ (sym c.place_of.ensures ∙ c.in-None.is))

pub returns : goal.returns
returns c =
    changed_place c.args.id c.in-Some.place (λ (g : Group). record g { packets = (g.packets + 1) % 2 ^ 64; bytes = (g.bytes + c.args.bytes) % 2 ^ 64 }) c.args.groups.now.items _ c.index_mut-group.result.now c.requires
    (sym (ap (position (λ (g : Group). eqb g.id c.args.id)) c.deref.ensures.value) ∙ (sym c.place_of.ensures ∙ c.in-Some.is))
    (ap (λ (g : Group). record g { packets = (g.packets + 1) % 2 ^ 64; bytes = (g.bytes + c.args.bytes) % 2 ^ 64 }) c.index_mut-group.ensures.value)
