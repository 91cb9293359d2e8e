use Rattle.std.proofs.Common.{◌≡◌, true, List, Some, refl, sym, ◌∙◌, ap, subst}
use Rattle.slab.specs.Slab.{Slab, Updates}
use Rattle.of_wire.specs.Numbered.{is_used, moved_to_end}
use Rattle.of_classifier.specs.{declared.Row.Row, Rows.row_number}
use Rattle.of_mask_groups.{specs.declared.entry.Entry.Entry, specs.Aged.by_age, specs.Aged.aged_entry, proofs.Numbers.used_entry, proofs.Changing.aged_more, proofs.Changing.rows_renewed}
use Rattle.of_mask_groups.proofs.{Holding.grouped_renewed, SlabLemmas.updates_with}
use Rattle.of_mask_groups.proofs.mask_groups.MaskGroupsLookup.renew.Goals as goal

pub invariant_of-self : goal.invariant_of-self
invariant_of-self c =
    let x = c.next_age-age.ensures in
    let mid = c.next_age-age.new.entries in
    let age = c.next_age-age.result in
    let n = c.args.number in
    let used : is_used row_number n (by_age age mid.slots) ≡ true = subst (λ (rs : List Row). is_used row_number n rs ≡ true) (sym (x.rows ∙ c.self.view_is)) c.requires in
    let d = used_entry mid age n used in
    let e = aged_entry age d.0 in
    let u : Updates mid c.set_age.new.entries n (Some e) = subst (λ (s : Slab Entry). Updates mid s n (Some e)) (sym (c.set_age.ensures d.0 d.1)) (updates_with mid n d.0 e d.1) in (
      aged_more mid c.set_age.new.entries age n e x.aged u refl,
      grouped_renewed mid c.set_age.new.entries c.self.inside.groups.list.items n d.0 e d.1 u refl refl (x.grouped c.self.inside.groups.list.items c.self.invariant.1),
    )

pub returns : goal.returns
returns c =
    let x = c.next_age-age.ensures in
    let mid = c.next_age-age.new.entries in
    let age = c.next_age-age.result in
    let n = c.args.number in
    let used : is_used row_number n (by_age age mid.slots) ≡ true = subst (λ (rs : List Row). is_used row_number n rs ≡ true) (sym (x.rows ∙ c.self.view_is)) c.requires in
    let d = used_entry mid age n used in
    let e = aged_entry age d.0 in
    let u : Updates mid c.set_age.new.entries n (Some e) = subst (λ (s : Slab Entry). Updates mid s n (Some e)) (sym (c.set_age.ensures d.0 d.1)) (updates_with mid n d.0 e d.1) in
    rows_renewed mid c.set_age.new.entries age n d.0 e x.aged d.1 u refl refl
    ∙ ap (λ (rs : List Row). moved_to_end row_number n rs) (x.rows ∙ c.self.view_is)
