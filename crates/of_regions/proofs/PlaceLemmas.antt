-- The places of the fields in the list of all.
use Rattle.std.proofs.Common.{◌≡◌, ℕ, zero, suc, ◌<◌, Bool, true, false, eqb, ltb, List, [], ◌∷◌, length, get_or, refl, sym, ap, ◌∙◌, arith}
use Rattle.std.{specs.Prelude.◌&&◌, specs.List.position_or_len, proofs.lemmas.Bool.eqb-true, proofs.lemmas.Bool.ltb-true, proofs.lemmas.Bool.Decides.nat_tests}
use Rattle.of_layers.specs.{declared.field.Field.Field, declared.field.Field.TheVariants.InPort, Fields.all_fields, Fields.number_of, Fields.row_of}
use Rattle.of_oxm.proofs.Related.{and_true}

pub place : Field → ℕ
place f = position_or_len (λ g. eqb (number_of g) (number_of f)) all_fields

pub at_place : (f : Field) → get_or all_fields (place f) InPort ≡ f
unfolding row_of place
at_place f = elim f as (λ f. get_or all_fields (place f) InPort ≡ f) [ InPort ↦ refl | _ ↦ refl ]

place_below : (f : Field) → ltb (place f) 28 ≡ true
unfolding row_of place
place_below f = elim f as (λ f. ltb (place f) 28 ≡ true) [ InPort ↦ refl | _ ↦ refl ]

pub place_small : (f : Field) → place f < 28
place_small f = ltb-true _ _ (place_below f)

is_at : ℕ → Bool
is_at i = eqb (place (get_or all_fields i InPort)) i

are_at : ℕ → Bool
are_at zero = true
are_at (suc n) = is_at n && are_at n

all_at : are_at 28 ≡ true
unfolding row_of place is_at are_at
all_at = refl

at_or_before : (n i : ℕ) (b : Bool) → eqb i n ≡ b → is_at n ≡ true → i < suc n → (i < n → is_at i ≡ true) → is_at i ≡ true
at_or_before n i true e here lt before = ap is_at (eqb-true _ _ e) ∙ here
at_or_before n i false e here lt before = before (grind (arith, nat_tests, lt, e))

each_at : (n i : ℕ) → are_at n ≡ true → i < n → is_at i ≡ true
unfolding are_at
each_at zero i h lt = absurd (omega (arith, lt))
each_at (suc n) i h lt =
    let both = and_true (is_at n) (are_at n) h in
    at_or_before n i (eqb i n) refl both.0 lt (each_at n i both.1)

pub place_at : (i : ℕ) → i < 28 → place (get_or all_fields i InPort) ≡ i
unfolding is_at
place_at i lt = eqb-true _ _ (each_at 28 i all_at lt)

-- that of an item of the list, whatever stands for items past its end
pub place_of_item : (i : ℕ) (d : Field) → i < 28 → place (get_or all_fields i d) ≡ i
place_of_item i d lt = ap place (same_or all_fields i d InPort lt) ∙ place_at i lt
  where
    same_or : (xs : List Field) (i : ℕ) (a b : Field) → i < length xs → get_or xs i a ≡ get_or xs i b
    same_or [] i a b lt = absurd (omega (arith, lt))
    same_or (x ∷ xs) zero a b lt = refl
    same_or (x ∷ xs) (suc i) a b lt = same_or xs i a b (omega (arith, lt))

pub place_of_read : (xs : List Field) (i : ℕ) (d : Field) → xs ≡ all_fields → i < length xs → place (get_or xs i d) ≡ i
place_of_read xs i d is lt =
    let within : i < 28 = omega (arith, lt, ap length is) in
    ap (λ (ys : List Field). place (get_or ys i d)) is ∙ place_of_item i d within

-- fields at one place are one field
pub same_place : (f g : Field) → place f ≡ place g → f ≡ g
same_place f g h = sym (at_place f) ∙ ap (λ (i : ℕ). get_or all_fields i InPort) h ∙ at_place g
