-- What the normal form of a match matches is what each field, as it was encoded, agrees with.
use Rattle.std.proofs.Common.{◌≡◌, ℕ, Bool, true, false, cond, eqb, List, [], ◌∷◌, Option, Some, None, refl, sym, ap, ◌∙◌}
use Rattle.std.{specs.Prelude.bit_and, specs.Prelude.◌&&◌, specs.Prelude.nat_lt, specs.Int.Bits.and_self, proofs.lemmas.Bool.eqb-true}
use Rattle.of_layers.specs.{declared.field.Field.Field, declared.field.Field.TheVariants.InPort, Fields.row_of, Fields.number_of, Fields.ones_of}
use Rattle.of_oxm.specs.NormalForm.{under, kept, with_field, with_kept_field, normal}
use Rattle.of_oxm.specs.{declared.match_field.MatchField.MatchField, Relations.bits_looked_at, Relations.agrees, Relations.matches_map}
use Rattle.of_oxm.specs.Meaning.{meant_bits, meets_by, field_meets, are_met}

some_ones : (f : Field) → eqb (ones_of f) 0 ≡ false
unfolding row_of
some_ones f = elim f as (λ f. eqb (ones_of f) 0 ≡ false) [ InPort ↦ refl | _ ↦ refl ]

swapped : (a b c : Bool) → (a && (b && c)) ≡ (b && (a && c))
swapped true b c = refl
swapped false true c = refl
swapped false false c = refl

-- the place of a field among the others does not matter
put_matches : (e : MatchField) (xs : List MatchField) (map : Field → Option ℕ) → matches_map (with_field e xs) map ≡ (agrees e (map e.field) && matches_map xs map)
put_matches e [] map = refl
put_matches e (x ∷ xs) map =
    let split : (b : Bool) → matches_map (cond b (e ∷ x ∷ xs) (x ∷ with_field e xs)) map ≡ (agrees e (map e.field) && (agrees x (map x.field) && matches_map xs map))
    = λ b. elim b as (λ b. matches_map (cond b (e ∷ x ∷ xs) (x ∷ with_field e xs)) map ≡ (agrees e (map e.field) && (agrees x (map x.field) && matches_map xs map))) [
      | true ↦ refl
      | false ↦ ap (λ (c : Bool). agrees x (map x.field) && c) (put_matches e xs map) ∙ swapped (agrees x (map x.field)) (agrees e (map e.field)) (matches_map xs map)
    ] in
    split (nat_lt (number_of e.field) (number_of x.field))

-- one field

meets_some : (bits value : ℕ) (k : MatchField) (o : Option ℕ) → bits_looked_at k ≡ bits → k.value ≡ value → eqb bits 0 ≡ false → agrees k o ≡ meets_by bits value o
meets_some bits value k None b v some = sym some
meets_some bits value k (Some w) b v some = rw (some, b, v) refl

meets_none : (bits value : ℕ) (o : Option ℕ) → eqb bits 0 ≡ true → meets_by bits value o ≡ true
meets_none bits value None none = none
meets_none bits value (Some w) none = rw none refl

as_put : (k : MatchField) (xs : List MatchField) (map : Field → Option ℕ) (met : Bool) → agrees k (map k.field) ≡ met → matches_map (with_field k xs) map ≡ (met && matches_map xs map)
as_put k xs map met h = put_matches k xs map ∙ ap (λ (b : Bool). b && matches_map xs map) h

under_meets : (f : Field) (value mask : ℕ) (xs : List MatchField) (map : Field → Option ℕ)
    → let e : MatchField = record { field = f; value = value; mask = Some mask } in matches_map (with_kept_field (under e (bit_and mask (ones_of f))) xs) map ≡ (field_meets e (map f) && matches_map xs map)
under_meets f value mask xs map =
    let e : MatchField = record { field = f; value = value; mask = Some mask } in
    let n : ℕ = bit_and mask (ones_of f) in
    let whole : MatchField = record { field = f; value = value; mask = None } in
    let part : MatchField = record { field = f; value = value; mask = Some n } in
    let inner : (b : Bool) → eqb n (ones_of f) ≡ b → eqb n 0 ≡ false → matches_map (with_kept_field (cond b (Some whole) (Some part)) xs) map ≡ (meets_by n value (map f) && matches_map xs map)
    = λ b. elim b as (λ b. eqb n (ones_of f) ≡ b → eqb n 0 ≡ false → matches_map (with_kept_field (cond b (Some whole) (Some part)) xs) map ≡ (meets_by n value (map f) && matches_map xs map)) [
      | true ↦ λ same some. as_put whole xs map (meets_by n value (map f)) (meets_some n value whole (map f) (sym (eqb-true _ _ same)) refl some)
      | false ↦ λ same some. as_put part xs map (meets_by n value (map f)) (meets_some n value part (map f) refl refl some)
    ] in
    let outer : (b : Bool) → eqb n 0 ≡ b → matches_map (with_kept_field (cond b None (cond (eqb n (ones_of f)) (Some whole) (Some part))) xs) map ≡ (meets_by n value (map f) && matches_map xs map)
    = λ b. elim b as (λ b. eqb n 0 ≡ b → matches_map (with_kept_field (cond b None (cond (eqb n (ones_of f)) (Some whole) (Some part))) xs) map ≡ (meets_by n value (map f) && matches_map xs map)) [
      | true ↦ λ none. rw (meets_none n value (map f) none) refl
      | false ↦ λ some. inner (eqb n (ones_of f)) refl some
    ] in
    outer (eqb n 0) refl

kept_meets : (f : Field) (value : ℕ) (mask : Option ℕ) (xs : List MatchField) (map : Field → Option ℕ)
    → let e : MatchField = record { field = f; value = value; mask = mask } in matches_map (with_kept_field (kept e) xs) map ≡ (field_meets e (map f) && matches_map xs map)
unfolding kept
kept_meets f value None xs map =
    let e : MatchField = record { field = f; value = value; mask = None } in
    as_put e xs map (field_meets e (map f)) (meets_some (meant_bits e) value e (map f) (sym (and_self (ones_of f))) refl (ap (λ (n : ℕ). eqb n 0) (and_self (ones_of f)) ∙ some_ones f))
kept_meets f value (Some mask) xs map = under_meets f value mask xs map

pub normal_is_meant : (es : List MatchField) (map : Field → Option ℕ) → matches_map (normal es) map ≡ are_met es map
normal_is_meant [] map = refl
normal_is_meant (e ∷ es) map = kept_meets e.field e.value e.mask (normal es) map ∙ ap (λ (b : Bool). field_meets e (map e.field) && b) (normal_is_meant es map)
