use Rattle.std.{specs.List.Contains, proofs.Common.ℕ, proofs.Common.List, proofs.Common.sym, proofs.Common.subst}
use Rattle.of_mask_groups.{specs.declared.group.Group.Group, specs.SameEntry.IsOldestSame, proofs.Members.at_place, proofs.SameLemmas.same_answer, proofs.SameLemmas.same_nowhere}
use Rattle.of_mask_groups.proofs.same.same_in.Goals as goal

pub returns-in-Some : goal.returns-in-Some
returns-in-Some c = λ next aged.
    let s = c.args.entries.now in
    let gs = c.args.groups.now.list.items in
    let g = c.index.result.now in
    let key = c.key_of.result in
    let there : Contains gs g = subst (λ (z : Group). Contains gs z) (sym c.index.ensures) (at_place gs c.in-Some.place g c.in-Some.ensures.within) in
    same_answer s gs g c.mask_of-mask.result key c.args.fields.now c.args.priority next c.oldest_same.result c.requires aged there
    (record { mask_is = c.in-Some.ensures.found g (sym c.index.ensures); masked = c.mask_of-mask.ensures; asks = c.key_of.ensures })
    (subst (λ (ns : List ℕ). IsOldestSame s ns c.args.fields.now c.args.priority c.oldest_same.result) c.probe-numbers.ensures.numbers c.oldest_same.ensures)

pub returns-in-None : goal.returns-in-None
returns-in-None c = λ next aged. same_nowhere c.args.entries.now c.args.groups.now.list.items c.mask_of-mask.result c.args.fields.now c.args.priority next c.requires aged c.mask_of-mask.ensures c.in-None.ensures.none
