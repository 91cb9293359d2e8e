-- Conditions under some bits of a field.
use Rattle.std.proofs.Common.{◌≡◌, ◌∙◌, ap, ℕ, List, [], ◌∷◌, ◌++◌, Some}
use Rattle.std.{specs.Int.Bits.bit_and, specs.Int.Bits.and_self, proofs.lemmas.Nat.and_assoc}
use Rattle.of_layers.specs.{declared.field.Field.Field, declared.field.FieldRow.FieldRow, Fields.ones_of, Fields.row_of}
use Rattle.of_oxm.specs.declared.match_field.MatchField.{MatchField}
use Rattle.of_regions.specs.Conditions.{AreConditions, IsCondition}
use Rattle.of_alike.proofs.Agreeing.{all_both}

pub bits_are_condition : (f : Field) (bits wanted ones : ℕ) → ones ≡ ones_of f → AreConditions (record { field = f; value = bit_and wanted (bit_and bits ones); mask = Some (bit_and bits ones) } ∷ [])
bits_are_condition f bits wanted ones is =
    let mask = bit_and bits (ones_of f) in
    rw is (
      record {
        within = and_assoc (ones_of f) bits (ones_of f) ∙ ap (bit_and bits) (and_self (ones_of f));
        value = and_assoc mask wanted mask ∙ ap (bit_and wanted) (and_self mask);
      },
      tt,
    )

pub of_row : (f : Field) (row : FieldRow) → row ≡ row_of f → (bits wanted : ℕ) → AreConditions (record { field = f; value = bit_and wanted (bit_and bits row.ones); mask = Some (bit_and bits row.ones) } ∷ [])
of_row f row is bits wanted = bits_are_condition f bits wanted row.ones (ap (λ (r : FieldRow). r.ones) is)

pub conditions_more : (old new : List MatchField) (e : MatchField) → new ≡ old ++ e ∷ [] → AreConditions (e ∷ []) → AreConditions old → AreConditions new
conditions_more old new e is own kept = rw is (all_both IsCondition old (e ∷ []) kept own)
