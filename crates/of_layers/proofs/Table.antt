-- What holds of each row of the table of fields.
use Rattle.std.proofs.Common.{◌≡◌, ℕ, ◌-◌, ◌^◌, ◌<◌, ◌≤◌, Bool, true, false, cond, eqb, ltb, List, [], ◌∷◌, Some, refl, ap, arith}
use Rattle.std.{specs.Prelude.find, proofs.lemmas.Bool.eqb-true, proofs.lemmas.Bool.ltb-true}
use Rattle.of_layers.specs.Fields.{row_of, number_of, bit_count, bytes_of, ones_of, field_at}
use Rattle.of_layers.specs.{declared.field.Field.Field, declared.field.Field.TheVariants.InPort}
use Rattle.of_layers.specs.declared.field.TheConstants.Field as constants

-- ---- numbers

-- the number of a field leads back to it
pub field_at-number_of : (f : Field) → field_at (number_of f) ≡ Some f
unfolding field_at row_of
field_at-number_of f = elim f as (λ f. field_at (number_of f) ≡ Some f) [ InPort ↦ refl | _ ↦ refl ]

find_passes : {X : Type 0} (p : X → Bool) (xs : List X) (x : X) → find p xs ≡ Some x → p x ≡ true
find_passes p [] x e = absurd cc
find_passes {X} p (y ∷ ys) x e =
    let split : (b : Bool) → p y ≡ b → cond b (Some y) (find p ys) ≡ Some x → p x ≡ true
    = λ b. elim b as (λ b. p y ≡ b → cond b (Some y) (find p ys) ≡ Some x → p x ≡ true) [
      | true ↦ λ h e'. let same : y ≡ x = cc in rw (← same) h
      | false ↦ λ h e'. find_passes p ys x e'
    ] in
    split (p y) refl e

-- the field that a number leads to has that number
pub number_of-field_at : (n : ℕ) (f : Field) → field_at n ≡ Some f → number_of f ≡ n
unfolding field_at
number_of-field_at n f e = eqb-true _ _ (find_passes (λ g. eqb (number_of g) n) constants.ALL f e)

-- two fields with one number are one
pub same_number : (f g : Field) → number_of f ≡ number_of g → f ≡ g
same_number f g e =
    let a : field_at (number_of f) ≡ Some f = field_at-number_of f in
    let b : field_at (number_of g) ≡ Some g = field_at-number_of g in
    let c : field_at (number_of f) ≡ field_at (number_of g) = ap field_at e in
    cc

number_small : (f : Field) → ltb (number_of f) 31 ≡ true
unfolding row_of
number_small f = elim f as (λ f. ltb (number_of f) 31 ≡ true) [ InPort ↦ refl | _ ↦ refl ]

pub number_below : (f : Field) → number_of f < 31
number_below f = ltb-true _ _ (number_small f)

-- ---- the bytes of a value

bytes_not_none : (f : Field) → ltb 0 (bytes_of f) ≡ true
unfolding row_of
bytes_not_none f = elim f as (λ f. ltb 0 (bytes_of f) ≡ true) [ InPort ↦ refl | _ ↦ refl ]

pub bytes_some : (f : Field) → 1 ≤ bytes_of f
bytes_some f = omega (arith, ltb-true _ _ (bytes_not_none f))

bytes_small : (f : Field) → ltb (bytes_of f) 17 ≡ true
unfolding row_of
bytes_small f = elim f as (λ f. ltb (bytes_of f) 17 ≡ true) [ InPort ↦ refl | _ ↦ refl ]

pub bytes_most : (f : Field) → bytes_of f ≤ 16
bytes_most f = omega (arith, ltb-true _ _ (bytes_small f))

-- ---- the largest value

pub ones_is : (f : Field) → ones_of f ≡ 2 ^ bit_count f - 1
unfolding row_of
ones_is f = elim f as (λ f. ones_of f ≡ 2 ^ bit_count f - 1) [ InPort ↦ refl | _ ↦ refl ]

-- it fits the bytes of a value
pub ones_fit : (f : Field) → ltb (ones_of f) (256 ^ bytes_of f) ≡ true
unfolding row_of
ones_fit f = elim f as (λ f. ltb (ones_of f) (256 ^ bytes_of f) ≡ true) [ InPort ↦ refl | _ ↦ refl ]

pub value_below : (f : Field) (v : ℕ) → v ≤ ones_of f → v < 256 ^ bytes_of f
value_below f v h = omega (arith, h, ltb-true _ _ (ones_fit f))
