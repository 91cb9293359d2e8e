use Rattle.std.proofs.Common.{◌≡◌, ℕ, false, Option, Some, None, refl, sym, ◌∙◌}
use Rattle.std.specs.Prelude.{is_some}
use Rattle.of_layers.specs.declared.field.Field.TheVariants.{VlanPcp, VlanVid}
use Rattle.of_regions.proofs.starting.asks_tag.Goals as goal

none_of : (o : Option ℕ) → is_some o ≡ false → o ≡ None
none_of None h = refl
none_of (Some x) h = absurd cc

pub returns-else-looks_at : goal.returns-else-looks_at
returns-else-looks_at c not_so =
    (sym (c.mask_of-mask.ensures VlanVid) ∙ none_of _ (sym c.looks_at.ensures ∙ c.if-looks_at.false), sym (c.mask_of-mask.ensures VlanPcp) ∙ none_of _ (sym c.looks_at-else-looks_at.ensures ∙ not_so))
