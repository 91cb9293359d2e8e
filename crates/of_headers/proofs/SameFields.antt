-- Keys with the same fields are the same, and `==` tells keys apart.
use Rattle.std.proofs.Common.{◌≡◌, ℕ, zero, suc, ◌<◌, Bool, true, false, cond, eqb, ◌&&◌, List, [], ◌∷◌, get_or, subst, Option, Some, None, refl, sym, ◌∙◌, arith}
use Rattle.std.proofs.lemmas.Nat.Bits.{bit_at-lt, bit_at-zero, bit_at_or, bit_at-pow_other, same_from_bits}
use Rattle.std.{specs.Prelude.◌==◌, specs.Prelude.◌^◌, specs.Prelude.find, specs.Prelude.map, specs.Int.bit_at, proofs.Math.Nat.ℕ_set, proofs.lemmas.Bool.eqb-true, proofs.lemmas.Bool.eq-eqb}
use mathlib.Core.HLevel.{is_prop→PathP}
use Rattle.of_layers.{specs.declared.field.Field.Field, specs.Fields.row_of, specs.Fields.number_of, specs.Fields.field_at, specs.Fields.all_fields, proofs.Table.number_of-field_at}
use Rattle.of_headers.specs.{declared.numbers.Numbers.Numbers, declared.key.FieldKey.FieldKey, Numbers.numbers_in, Presence.AreFields, Presence.AbsentAreZero, Presence.word_of, Presence.all_bits}
use Rattle.of_headers.{specs.FieldMap.value, proofs.PresenceLemmas.within}
use Rattle.of_headers.specs.contracts.key.FieldKeyPartialEq.TheImpl as the_key

-- ---- one field

record IsSameAt (p q : ℕ) (xs ys : List ℕ) (n : ℕ) : Type 0 where
  bit : bit_at p n ≡ bit_at q n
  number : get_or xs n 0 ≡ get_or ys n 0

same_by : (a b x y : ℕ) → a < 2 → b < 2 → (a ≡ 0 → x ≡ 0) → (b ≡ 0 → y ≡ 0) → cond (a == 1) (Some x) None ≡ cond (b == 1) (Some y) None → (a ≡ b) × (x ≡ y)
same_by zero zero x y l m g h e = (refl, g refl ∙ sym (h refl))
same_by zero (suc zero) x y l m g h e = absurd (cc)
same_by (suc zero) zero x y l m g h e = absurd (cc)
same_by (suc zero) (suc zero) x y l m g h e = (refl, cc)
same_by zero (suc (suc b)) x y l m g h e = absurd (omega arith)
same_by (suc zero) (suc (suc b)) x y l m g h e = absurd (omega arith)
same_by (suc (suc a)) b x y l m g h e = absurd (omega arith)

same_at : (j k : FieldKey) (f : Field) → value j f ≡ value k f → IsSameAt j.numbers.present k.numbers.present (numbers_in j.numbers) (numbers_in k.numbers) (number_of f)
unfolding value
same_at j k f e =
    let n : ℕ = number_of f in
    let both = same_by (bit_at j.numbers.present n) (bit_at k.numbers.present n) (get_or (numbers_in j.numbers) n 0) (get_or (numbers_in k.numbers) n 0) (bit_at-lt j.numbers.present n) (bit_at-lt k.numbers.present n) (j.absent f) (k.absent f) e in
    record { bit = both.0; number = both.1 }

-- ---- the bits: a number of no field has none

none_in : (fs : List Field) (n : ℕ) → find (λ f. number_of f == n) fs ≡ None → bit_at (word_of fs) n ≡ 0
none_in [] n h = bit_at-zero n
none_in (f ∷ fs) n h =
    let split : (b : Bool) → (number_of f == n) ≡ b → cond b (Some f) (find (λ f. number_of f == n) fs) ≡ None → bit_at (word_of (f ∷ fs)) n ≡ 0
    = λ b. elim b as (λ b. (number_of f == n) ≡ b → cond b (Some f) (find (λ f. number_of f == n) fs) ≡ None → bit_at (word_of (f ∷ fs)) n ≡ 0) [
      | true ↦ λ e h. absurd cc
      | false ↦ λ e h. (let other : n ≡ number_of f → ⊥ = λ s. (let same : (number_of f == n) ≡ true = eq-eqb (number_of f) n (sym s) in cc) in omega (arith, bit_at_or (2 ^ number_of f) (word_of fs) n, bit_at-pow_other (number_of f) n other, none_in fs n h))
    ] in
    split (number_of f == n) refl h

no_bit : (p n : ℕ) → AreFields p → field_at n ≡ None → bit_at p n ≡ 0
unfolding field_at all_bits
no_bit p n h e = omega (arith, within p h n, none_in all_fields n e)

same_bit : (j k : FieldKey) → ((f : Field) → value j f ≡ value k f) → (i : ℕ) → bit_at j.numbers.present i ≡ bit_at k.numbers.present i
same_bit j k h i =
    let split : (o : Option Field) → field_at i ≡ o → bit_at j.numbers.present i ≡ bit_at k.numbers.present i
    = λ o. elim o as (λ o. field_at i ≡ o → bit_at j.numbers.present i ≡ bit_at k.numbers.present i) [
      | Some f ↦ λ e. subst (λ (n : ℕ). bit_at j.numbers.present n ≡ bit_at k.numbers.present n) (number_of-field_at i f e) (same_at j k f (h f)).bit
      | None ↦ λ e. no_bit j.numbers.present i j.known e ∙ sym (no_bit k.numbers.present i k.known e)
    ] in
    split (field_at i) refl

-- ---- the numbers, one field after the other

abbrev listed : Numbers → List Field → List ℕ
listed k fs = map (λ f. get_or (numbers_in k) (number_of f) 0) fs

same_listed : (j k : FieldKey) → ((f : Field) → value j f ≡ value k f) → (fs : List Field) → listed j.numbers fs ≡ listed k.numbers fs
same_listed j k h [] = refl
same_listed j k h (f ∷ fs) = rw ((same_at j k f (h f)).number, same_listed j k h fs) refl

whole : (j k : Numbers) → j.present ≡ k.present → listed j all_fields ≡ listed k all_fields → j ≡ k
unfolding row_of
whole j k p e = grind (arith, p, e)

same_numbers : (j k : FieldKey) → j.numbers ≡ k.numbers → j ≡ k
same_numbers j k e = λ i. record {
  numbers = e i;
  known = is_prop→PathP (λ i. AreFields (e i).present) (λ i. ℕ_set _ _) j.known k.known i;
  absent = is_prop→PathP (λ i. AbsentAreZero (e i).present (numbers_in (e i))) (λ i x y. λ t f h. ℕ_set _ _ (x f h) (y f h) t) j.absent k.absent i;
}

pub same_key : (j k : FieldKey) → ((f : Field) → value j f ≡ value k f) → j ≡ k
same_key j k h = same_numbers j k (whole j.numbers k.numbers (same_from_bits j.numbers.present k.numbers.present (same_bit j k h)) (same_listed j k h all_fields))

-- ---- equal numbers, one after the other

abbrev same_from : ℕ → List ℕ → ℕ → List ℕ → Bool
same_from x [] y [] = eqb x y
same_from x [] y (b ∷ vs) = false
same_from x (a ∷ us) y [] = false
same_from x (a ∷ us) y (b ∷ vs) = eqb x y && same_from a us b vs

record Both (a b : Bool) : Type 0 where
  left : a ≡ true
  right : b ≡ true

both : (a b : Bool) → (a && b) ≡ true → Both a b
both true b e = record { left = refl; right = e }
both false b e = absurd cc

same_lists : (x : ℕ) (xs : List ℕ) (y : ℕ) (ys : List ℕ) → same_from x xs y ys ≡ true → x ∷ xs ≡ y ∷ ys
same_lists x [] y [] h = let e : x ≡ y = eqb-true x y h in cc
same_lists x [] y (b ∷ vs) h = absurd cc
same_lists x (a ∷ us) y [] h = absurd cc
same_lists x (a ∷ us) y (b ∷ vs) h =
    let p = both (eqb x y) (same_from a us b vs) h in
    let e : x ≡ y = eqb-true x y p.left in
    let r : a ∷ us ≡ b ∷ vs = same_lists a us b vs p.right in
    cc

same_itself : (x : ℕ) (xs : List ℕ) → same_from x xs x xs ≡ true
same_itself x [] = eq-eqb x x refl
same_itself x (a ∷ us) = rw (eq-eqb x x refl, same_itself a us) refl

pub equal_keys : (j k : FieldKey) → the_key.eq-value.it j k ≡ true → j ≡ k
equal_keys j k h =
    let e : j.numbers.present ∷ numbers_in j.numbers ≡ k.numbers.present ∷ numbers_in k.numbers = same_lists j.numbers.present (numbers_in j.numbers) k.numbers.present (numbers_in k.numbers) h in
    same_numbers j k (grind (arith, e))

pub key_itself : (k : FieldKey) → the_key.eq-value.it k k ≡ true
key_itself k = same_itself k.numbers.present (numbers_in k.numbers)
