-- Two matches that overlap match one field map: where both look at a field it has the ones of both values, else the value of the one that looks there.
use Rattle.std.proofs.Common.{◌≡◌, ℕ, ◌^◌, ◌<◌, ◌≤◌, Bool, true, false, cond, eqb, List, [], ◌∷◌, Option, Some, None, refl, sym, ap, subst, ◌∙◌, arith}
use Rattle.std.specs.Prelude.{bit_and, bit_or, not, ◌||◌, unwrap_or, IfSome}
use Rattle.std.{specs.Int.bit_at, specs.List.list_all, specs.List.AllByRecursion, specs.Option.option_map, proofs.lemmas.Bool.eqb-true, proofs.lemmas.Bool.eq-eqb}
use Rattle.std.proofs.{lemmas.Nat.or_lt, lemmas.Nat.pow_pos, lemmas.Nat.Bits.bit_at_and, lemmas.Nat.Bits.bit_at_or, lemmas.Nat.Bits.same_from_bits}
use Rattle.of_layers.{specs.declared.field.Field.Field, specs.Fields.number_of, specs.Fields.bit_count, specs.Fields.ones_of, proofs.Table.same_number, proofs.Table.ones_is}
use Rattle.of_headers.specs.FieldMap.{seen}
use Rattle.of_oxm.specs.Relations.{IsWithinBits, bits_looked_at, matches_map, can_both, overlaps_match}
use Rattle.of_oxm.specs.{declared.match_field.MatchField.MatchField, NormalForm.IsKept, NormalForm.IsKeptMask, NormalForm.IsMatch, Masks.first_at, Masks.value_of}
use Rattle.of_oxm.proofs.{Related.and_true, Normal.under_ones, Seen.seen_matched}

-- ---- the map

joined : Option ℕ → Option ℕ → Option ℕ
joined None b = b
joined (Some a) None = Some a
joined (Some a) (Some b) = Some (bit_or a b)

common : List MatchField → List MatchField → Field → Option ℕ
common m n f = joined (value_of m f) (value_of n f)

-- ---- the ones of two values that agree under both masks

first_kept : (x y a b : ℕ) → bit_and x a ≡ x → bit_and y b ≡ y → bit_and y a ≡ bit_and x b → bit_and (bit_or x y) a ≡ x
first_kept x y a b p q r = same_from_bits _ _ (λ i.
    let px : bit_at (bit_and x a) i ≡ bit_at x i = ap (λ (n : ℕ). bit_at n i) p in
    let rx : bit_at (bit_and y a) i ≡ bit_at (bit_and x b) i = ap (λ (n : ℕ). bit_at n i) r in
    let o : bit_at (bit_or x y) i ≡ _ = bit_at_or x y i in
    omega (arith, px, rx, o, bit_at_and (bit_or x y) a i, bit_at_and x a i, bit_at_and y a i, bit_at_and x b i))

second_kept : (x y a b : ℕ) → bit_and x a ≡ x → bit_and y b ≡ y → bit_and y a ≡ bit_and x b → bit_and (bit_or x y) b ≡ y
second_kept x y a b p q r = same_from_bits _ _ (λ i.
    let qx : bit_at (bit_and y b) i ≡ bit_at y i = ap (λ (n : ℕ). bit_at n i) q in
    let rx : bit_at (bit_and y a) i ≡ bit_at (bit_and x b) i = ap (λ (n : ℕ). bit_at n i) r in
    let o : bit_at (bit_or x y) i ≡ _ = bit_at_or x y i in
    omega (arith, qx, rx, o, bit_at_and (bit_or x y) b i, bit_at_and y b i, bit_at_and y a i, bit_at_and x b i))

-- ---- what a match's first field of a number is

found_number : (m : List MatchField) (f : Field) (x : MatchField) → first_at m f ≡ Some x → x.field ≡ f
found_number [] f x e = absurd cc
found_number (y ∷ ys) f x e =
    let split : (b : Bool) → eqb (number_of y.field) (number_of f) ≡ b → cond b (Some y) (first_at ys f) ≡ Some x → x.field ≡ f
    = λ b. elim b as (λ b. eqb (number_of y.field) (number_of f) ≡ b → cond b (Some y) (first_at ys f) ≡ Some x → x.field ≡ f) [
      | true ↦ λ t h. let same : y ≡ x = cc in subst (λ (z : MatchField). z.field ≡ f) same (same_number y.field f (eqb-true _ _ t))
      | false ↦ λ t h. found_number ys f x h
    ] in
    split (eqb (number_of y.field) (number_of f)) refl e

found_passes : (p : MatchField → Bool) (m : List MatchField) (f : Field) (x : MatchField) → list_all p m ≡ true → first_at m f ≡ Some x → p x ≡ true
found_passes p [] f x all e = absurd cc
found_passes p (y ∷ ys) f x all e =
    let h = and_true (p y) (list_all p ys) all in
    let split : (b : Bool) → cond b (Some y) (first_at ys f) ≡ Some x → p x ≡ true
    = λ b. elim b as (λ b. cond b (Some y) (first_at ys f) ≡ Some x → p x ≡ true) [
      | true ↦ λ k. let same : y ≡ x = cc in subst (λ (z : MatchField). p z ≡ true) same h.0
      | false ↦ λ k. found_passes p ys f x h.1 k
    ] in
    split (eqb (number_of y.field) (number_of f)) e

found_kept : (m : List MatchField) (f : Field) (x : MatchField) → AllByRecursion IsKept m → first_at m f ≡ Some x → IsKept x
found_kept [] f x all e = absurd cc
found_kept (y ∷ ys) f x all e =
    let split : (b : Bool) → cond b (Some y) (first_at ys f) ≡ Some x → IsKept x
    = λ b. elim b as (λ b. cond b (Some y) (first_at ys f) ≡ Some x → IsKept x) [
      | true ↦ λ k. let same : y ≡ x = cc in subst IsKept same all.0
      | false ↦ λ k. found_kept ys f x all.1 k
    ] in
    split (eqb (number_of y.field) (number_of f)) e

covered_by : (f : Field) (v : ℕ) (mask : Option ℕ) → v ≤ ones_of f → IfSome mask (IsKeptMask f v) → bit_and v (unwrap_or mask (ones_of f)) ≡ v
covered_by f v None fits h = under_ones f v fits
covered_by f v (Some m) fits h = h.covers

-- a value lies under its mask
pub covered : (x : MatchField) → IsKept x → bit_and x.value (bits_looked_at x) ≡ x.value
covered x h = covered_by x.field x.value x.mask h.value h.mask

can_at : (x y : MatchField) → x.field ≡ y.field → can_both x y ≡ true → bit_and y.value (bits_looked_at x) ≡ bit_and x.value (bits_looked_at y)
can_at x y same h =
    let t : eqb (number_of y.field) (number_of x.field) ≡ true = eq-eqb _ _ (ap number_of (sym same)) in
    eqb-true _ _ (subst (λ (b : Bool). (not b || eqb (bit_and y.value (bits_looked_at x)) (bit_and x.value (bits_looked_at y))) ≡ true) t h)

-- ---- both match it

-- what two matches have of one field
record AreBoth (f : Field) (o p : Option MatchField) : Type 0 where
  one : IfSome o (λ x. IsKept x × (x.field ≡ f))
  other : IfSome p (λ y. IsKept y × (y.field ≡ f))
  both : (x y : MatchField) → o ≡ Some x → p ≡ Some y → can_both x y ≡ true

first_sees : (f : Field) (o p : Option MatchField) → AreBoth f o p → seen (option_map bits_looked_at o) (joined (option_map (λ e. e.value) o) (option_map (λ e. e.value) p)) ≡ option_map (λ e. e.value) o
unfolding joined
first_sees f None p h = refl
first_sees f (Some x) None h = ap Some (covered x h.one.0)
first_sees f (Some x) (Some y) h =
    ap Some (first_kept x.value y.value (bits_looked_at x) (bits_looked_at y) (covered x h.one.0) (covered y h.other.0) (can_at x y (h.one.1 ∙ sym h.other.1) (h.both x y refl refl)))

second_sees : (f : Field) (o p : Option MatchField) → AreBoth f o p → seen (option_map bits_looked_at p) (joined (option_map (λ e. e.value) o) (option_map (λ e. e.value) p)) ≡ option_map (λ e. e.value) p
unfolding joined
second_sees f o None h = refl
second_sees f None (Some y) h = ap Some (covered y h.other.0)
second_sees f (Some x) (Some y) h =
    ap Some (second_kept x.value y.value (bits_looked_at x) (bits_looked_at y) (covered x h.one.0) (covered y h.other.0) (can_at x y (h.one.1 ∙ sym h.other.1) (h.both x y refl refl)))

pub at_most : (f : Field) (a b : ℕ) → a ≤ ones_of f → b ≤ ones_of f → bit_or a b ≤ ones_of f
at_most f a b p q =
    let pos = pow_pos (bit_count f) in
    let lt : bit_or a b < 2 ^ bit_count f = or_lt (bit_count f) a b (omega (arith, p, ones_is f, pos)) (omega (arith, q, ones_is f, pos)) in
    omega (arith, lt, ones_is f)

pub kept_within : (f : Field) (x : MatchField) → IsKept x × (x.field ≡ f) → x.value ≤ ones_of f
kept_within f x h = subst (λ (g : Field). x.value ≤ ones_of g) h.1 (h.0.value)

within : (f : Field) (o p : Option MatchField) → AreBoth f o p → IfSome (joined (option_map (λ e. e.value) o) (option_map (λ e. e.value) p)) (λ v. v ≤ ones_of f)
unfolding joined
within f None None h = tt
within f None (Some y) h = kept_within f y h.other
within f (Some x) None h = kept_within f x h.one
within f (Some x) (Some y) h = at_most f x.value y.value (kept_within f x h.one) (kept_within f y h.other)

pub found_if : (m : List MatchField) (f : Field) (o : Option MatchField) → AllByRecursion IsKept m → first_at m f ≡ o → IfSome o (λ x. IsKept x × (x.field ≡ f))
found_if m f None all e = tt
found_if m f (Some x) all e = (found_kept m f x all e, found_number m f x e)

are_both : (m n : List MatchField) (f : Field) → IsMatch m → IsMatch n → overlaps_match m n ≡ true → AreBoth f (first_at m f) (first_at n f)
are_both m n f p q h = record {
  one = found_if m f (first_at m f) p.each refl;
  other = found_if n f (first_at n f) q.each refl;
  both = λ x y a b. found_passes (λ z. can_both x z) n f y (found_passes (λ w. list_all (λ z. can_both w z) n) m f x h a) b;
}

pub overlap_common : (m n : List MatchField) → IsMatch m → IsMatch n → overlaps_match m n ≡ true → (map : Field → Option ℕ) × IsWithinBits map × (matches_map m map ≡ true) × (matches_map n map ≡ true)
unfolding common
overlap_common m n p q h =
    let both = λ (f : Field). are_both m n f p q h in (
      common m n,
      λ f. within f (first_at m f) (first_at n f) (both f),
      seen_matched m (common m n) p (λ f. first_sees f (first_at m f) (first_at n f) (both f)),
      seen_matched n (common m n) q (λ f. second_sees f (first_at m f) (first_at n f) (both f)),
    )
