-- What is known of a packet after one more action.
use Rattle.std.proofs.Common.{◌≡◌, ℕ, ◌%◌, ◌^◌, Bool, true, false, cond, eqb, Option, Some, refl, sym, ap, ◌∙◌}
use Rattle.std.{specs.Prelude.bit_and, proofs.lemmas.Bool.eqb-true, proofs.lemmas.Nat.and_mask}
use Rattle.of_layers.specs.{declared.field.Field.Field, declared.field.Field.TheVariants.InPort, Fields.row_of, Fields.number_of, Fields.bit_count, Fields.ones_of}
use Rattle.of_layers.proofs.Table.{same_number}

-- the bits of a field are the low bits of a number
pub low_bits : (v : ℕ) (f : Field) → bit_and v (ones_of f) ≡ v % 2 ^ bit_count f
unfolding row_of
low_bits v f = elim f as (λ f. bit_and v (ones_of f) ≡ v % 2 ^ bit_count f) [ InPort ↦ and_mask v 32 | f ↦ and_mask v (bit_count f) ]

pub set_low : (field : Field) (v n : ℕ) (old new : Field → Option ℕ) → n ≡ ones_of field → ((f : Field) → new f ≡ cond (eqb (number_of f) (number_of field)) (Some (bit_and v n)) (old f)) →
    (f : Field) → new f ≡ cond (eqb (number_of f) (number_of field)) (Some (v % 2 ^ bit_count f)) (old f)
set_low field v n old new is h f = h f ∙ by_test (eqb (number_of f) (number_of field)) refl
  where
    by_test : (b : Bool) → eqb (number_of f) (number_of field) ≡ b → cond b (Some (bit_and v n)) (old f) ≡ cond b (Some (v % 2 ^ bit_count f)) (old f)
    by_test true e =
        let same : f ≡ field = same_number f field (eqb-true _ _ e) in
        ap (λ (k : ℕ). Some (bit_and v k)) (is ∙ sym (ap ones_of same)) ∙ ap (λ (k : ℕ). Some k) (low_bits v f)
    by_test false e = refl
