use Rattle.std.proofs.Common.{ℕ, List, sym, subst, ◌∙◌, ap}
use Rattle.std.specs.Prelude.{◌==◌}
use Rattle.of_oxm.specs.declared.masks.FieldMask.{FieldMask}
use Rattle.of_cache.proofs.Changing.{added, none_listed, none_right, on_ok, same_staying}
use Rattle.of_cache.specs.{Held.HeldRows, Kept.not_beaten, Listed.AreListed}
use Rattle.of_cache.proofs.cached.CachedLookup.add.Goals as goal

pub drop_beaten-requires-clause-listed : goal.drop_beaten-requires-clause-listed
drop_beaten-requires-clause-listed g c = subst (λ (ms : List FieldMask). AreListed ms c.self.inside.rows.entries) (sym c.deref.ensures.value) c.self.invariant.1.listed

pub drop_beaten-requires-clause-regions : goal.drop_beaten-requires-clause-regions
drop_beaten-requires-clause-regions g c = c.self.invariant.0.regions

pub drop_masks-requires-clause-listed : goal.drop_masks-requires-clause-listed
drop_masks-requires-clause-listed g c =
    let old = c.self.inside in
    (added old.masks.items (g.L.Lookup.content old.inner) (g.L.Lookup.content c.add-2.new.self) old.rows.entries c.drop_beaten.new.rows.entries c.mask_of-mask.result c.key_of-key.result c.in_ok-number.number c.args.priority c.args.fields
    c.known.ensures c.mask_of-mask.ensures c.key_of-key.ensures c.in_ok-number.ensures.ok c.drop_beaten.ensures.entries (c.self.invariant.0, c.self.invariant.1.listed)).1

pub invariant_of-self-2 : goal.invariant_of-self-2
invariant_of-self-2 g c =
    let old = c.self.inside in (
      (added old.masks.items (g.L.Lookup.content old.inner) (g.L.Lookup.content c.add-2.new.self) old.rows.entries c.drop_beaten.new.rows.entries c.mask_of-mask.result c.key_of-key.result c.in_ok-number.number c.args.priority c.args.fields
          c.known.ensures c.mask_of-mask.ensures c.key_of-key.ensures c.in_ok-number.ensures.ok c.drop_beaten.ensures.entries (c.self.invariant.0, c.self.invariant.1.listed)).0,
      c.drop_masks.ensures,
    )

pub returns-clause-rows : goal.returns-clause-rows
returns-clause-rows g c =
    c.drop_beaten.ensures.entries ∙ same_staying c.mask_of-mask.result c.key_of-key.result c.args.fields c.args.priority c.self.inside.rows.entries c.mask_of-mask.ensures c.key_of-key.ensures
    ∙ ap (λ (h : HeldRows). not_beaten c.args.fields c.args.priority h.rows) c.self.view_is

pub invariant_of-self : goal.invariant_of-self
invariant_of-self g c =
    let old = c.self.inside in
    (none_right (g.L.Lookup.content c.add.new.self) old.rows.entries (none_listed old.masks.items old.rows.entries (ap (λ (n : ℕ). n == 0) (sym old.masks.ok.0) ∙ (sym c.is_empty.ensures ∙ c.if-is_empty.true)) c.self.invariant.1.listed), c.self.invariant.1)

pub returns-then-is_empty-clause-rows : goal.returns-then-is_empty-clause-rows
returns-then-is_empty-clause-rows g c =
    let old = c.self.inside in
    let none = none_listed old.masks.items old.rows.entries (ap (λ (n : ℕ). n == 0) (sym old.masks.ok.0) ∙ (sym c.is_empty.ensures ∙ c.if-is_empty.true)) c.self.invariant.1.listed in
    on_ok c.add.result (none ∙ (ap (not_beaten c.args.fields c.args.priority) (sym none) ∙ ap (λ (h : HeldRows). not_beaten c.args.fields c.args.priority h.rows) c.self.view_is))
