-- Fields that are tested to be a match are one.
use Rattle.std.proofs.Common.{◌≡◌, ◌<◌, ◌∙◌, ℕ, Bool, true, List, [], ◌∷◌, Option, Some, None, sym, arith}
use Rattle.std.{specs.Prelude.nat_lt, specs.Prelude.nat_le, specs.Prelude.IfSome, specs.List.AllByRecursion, specs.List.list_all, proofs.lemmas.Bool.and_parts, proofs.lemmas.Bool.eqb-true}
use Rattle.std.proofs.lemmas.Bool.Decides.{nat_tests}
use Rattle.of_layers.specs.{declared.field.Field.Field, Fields.number_of, Fields.ones_of}
use Rattle.of_oxm.specs.{declared.match_field.MatchField.MatchField, Prerequisites.prerequisites_met, NormalForm.IsAscending, NormalForm.IsKept, NormalForm.IsKeptMask, NormalForm.IsMatch}
use Rattle.of_frame_words.specs.Fields.{rises_by_number, is_kept, is_kept_mask}

mask_kept : (f : Field) (value : ℕ) (m : ℕ) → is_kept_mask f value (Some m) ≡ true → IsKeptMask f value m
mask_kept f value m h =
    let a = and_parts _ _ h in
    let b = and_parts _ _ a.0 in
    let c = and_parts _ _ b.0 in
    let d = and_parts _ _ c.0 in
    record { maskable = d.0; some = grind (arith, nat_tests, d.1); not_all = grind (arith, nat_tests, c.1); within = eqb-true _ _ b.1; covers = eqb-true _ _ a.1 }

mask_is_kept : (f : Field) (value : ℕ) (mask : Option ℕ) → is_kept_mask f value mask ≡ true → IfSome mask (IsKeptMask f value)
mask_is_kept f value None h = tt
mask_is_kept f value (Some m) h = mask_kept f value m h

field_is_kept : (e : MatchField) → is_kept e ≡ true → IsKept e
field_is_kept e h = (let parts = and_parts _ _ h in let small : nat_le e.value (ones_of e.field) ≡ true = parts.0 in record { value = grind (arith, nat_tests, small); mask = mask_is_kept e.field e.value e.mask parts.1 })

all_kept : (fields : List MatchField) → list_all is_kept fields ≡ true → AllByRecursion IsKept fields
all_kept [] h = tt
all_kept (e ∷ es) h = (let parts = and_parts _ _ h in (field_is_kept e parts.0, all_kept es parts.1))

all_above : (n : ℕ) (fields : List MatchField) → list_all (λ (x : MatchField). nat_lt n (number_of x.field)) fields ≡ true → AllByRecursion (λ (x : MatchField). n < number_of x.field) fields
all_above n [] h = tt
all_above n (e ∷ es) h = (let parts = and_parts _ _ h in let above : nat_lt n (number_of e.field) ≡ true = parts.0 in (grind (arith, nat_tests, above), all_above n es parts.1))

ascending : (fields : List MatchField) → rises_by_number fields ≡ true → IsAscending fields
ascending [] h = tt
ascending (e ∷ es) h = (let parts = and_parts _ _ h in (all_above (number_of e.field) es parts.0, ascending es parts.1))

pub tested_match : (fields : List MatchField) → (kept rising met : Bool) → kept ≡ list_all is_kept fields → rising ≡ rises_by_number fields → met ≡ prerequisites_met fields → kept ≡ true → rising ≡ true → met ≡ true → IsMatch fields
tested_match fields kept rising met k r m kept_is rising_is met_is = record {
  each = all_kept fields (sym k ∙ kept_is);
  rising = ascending fields (sym r ∙ rising_is);
  met = sym m ∙ met_is;
}
