-- What covers, from the field maps that are matched: each field of a match is looked at by what covers nothing else, once with no further bit set and once with all of them.
use Rattle.std.proofs.Common.{◌≡◌, ℕ, ◌^◌, ◌+◌, ◌-◌, ◌<◌, ◌≤◌, Bool, true, false, cond, eqb, List, [], ◌∷◌, Option, Some, None, refl, sym, ap, subst, ◌∙◌, arith}
use Rattle.std.specs.Prelude.{bit_and, bit_or, ◌||◌, unwrap_or, IfSome}
use Rattle.std.specs.{Int.bit_at, Int.Bits.and_self, Int.Bits.and_comm, List.list_any, List.AllByRecursion, Option.option_map}
use Rattle.std.proofs.{lemmas.Bool.eqb-true, lemmas.Bool.eq-eqb, lemmas.Nat.and-not, lemmas.Nat.and_or_apart, lemmas.Nat.pow_pos}
use Rattle.std.proofs.lemmas.Nat.Bits.{bit_at_and, bit_at_or, same_from_bits}
use Rattle.of_layers.{specs.declared.field.Field.Field, specs.Fields.number_of, specs.Fields.bit_count, specs.Fields.ones_of, proofs.Table.ones_is}
use Rattle.of_headers.specs.FieldMap.{seen}
use Rattle.of_oxm.specs.Relations.{IsWithinBits, bits_looked_at, agrees, matches_map, is_within, covers_match}
use Rattle.of_oxm.specs.{declared.match_field.MatchField.MatchField, NormalForm.IsKept, NormalForm.IsKeptMask, NormalForm.IsMatch, Masks.first_at, Masks.value_of}
use Rattle.of_oxm.proofs.{Related.and_true, Joined.covered, Joined.found_if, Joined.at_most, Joined.kept_within, Seen.seen_matched}

-- ---- the bits that a field of a match does not look at

looked_within : (f : Field) (v : ℕ) (mask : Option ℕ) → IfSome mask (IsKeptMask f v) → unwrap_or mask (ones_of f) ≤ ones_of f
looked_within f v None h = omega arith
looked_within f v (Some m) h = omega (arith, h.not_all)

bits_within : (f : Field) (y : MatchField) → IsKept y × (y.field ≡ f) → bits_looked_at y ≤ ones_of f
bits_within f y h = subst (λ (g : Field). bits_looked_at y ≤ ones_of g) h.1 (looked_within y.field y.value y.mask h.0.mask)

others : Field → MatchField → ℕ
others f y = ones_of f - bits_looked_at y

below : (f : Field) (n : ℕ) → n ≤ ones_of f → n < 2 ^ bit_count f
below f n h = omega (arith, h, ones_is f, pow_pos (bit_count f))

-- of any n within the field's bits, those that y looks at and the others are all
parted : (f : Field) (y : MatchField) (n : ℕ) → bits_looked_at y ≤ ones_of f → n ≤ ones_of f → bit_and (others f y) n + bit_and (bits_looked_at y) n ≡ n
unfolding others
parted f y n small fits =
    subst (λ (k : ℕ). bit_and (k - bits_looked_at y) n + bit_and (bits_looked_at y) n ≡ n) (sym (ones_is f)) (and-not (bit_count f) (bits_looked_at y) n (below f (bits_looked_at y) small) (below f n fits))

apart : (f : Field) (y : MatchField) → bits_looked_at y ≤ ones_of f → bit_and (others f y) (bits_looked_at y) ≡ 0
apart f y small = omega (arith, parted f y (bits_looked_at y) small small, and_self (bits_looked_at y))

-- ---- two maps that a match matches

filled : List MatchField → Field → Option ℕ
filled m f = option_map (λ (y : MatchField). bit_or y.value (others f y)) (first_at m f)

plain_seen : (f : Field) (o : Option MatchField) → IfSome o (λ y. IsKept y × (y.field ≡ f)) → seen (option_map bits_looked_at o) (option_map (λ (y : MatchField). y.value) o) ≡ option_map (λ (y : MatchField). y.value) o
plain_seen f None h = refl
plain_seen f (Some y) h = ap Some (covered y h.0)

filled_seen : (f : Field) (o : Option MatchField) → IfSome o (λ y. IsKept y × (y.field ≡ f)) → seen (option_map bits_looked_at o) (option_map (λ (y : MatchField). bit_or y.value (others f y)) o) ≡ option_map (λ (y : MatchField). y.value) o
filled_seen f None h = refl
filled_seen f (Some y) h = ap Some (and_or_apart (bits_looked_at y) y.value (others f y) (apart f y (bits_within f y h)) ∙ covered y h.0)

plain_within : (f : Field) (o : Option MatchField) → IfSome o (λ y. IsKept y × (y.field ≡ f)) → IfSome (option_map (λ (y : MatchField). y.value) o) (λ v. v ≤ ones_of f)
plain_within f None h = tt
plain_within f (Some y) h = kept_within f y h

filled_within : (f : Field) (o : Option MatchField) → IfSome o (λ y. IsKept y × (y.field ≡ f)) → IfSome (option_map (λ (y : MatchField). bit_or y.value (others f y)) o) (λ v. v ≤ ones_of f)
unfolding others
filled_within f None h = tt
filled_within f (Some y) h = at_most f y.value (ones_of f - bits_looked_at y) (kept_within f y h) (omega arith)

-- ---- a field that agrees with both maps is within a field of the match

-- what looks at bits that are the same with all others set looks at none of the others
no_other : (y a c : ℕ) → bit_and y c ≡ 0 → bit_and (bit_or y c) a ≡ bit_and y a → bit_and c a ≡ 0
no_other y a c disjoint same = same_from_bits _ _ (λ i.
    let d : bit_at (bit_and y c) i ≡ bit_at 0 i = ap (λ (n : ℕ). bit_at n i) disjoint in
    let s : bit_at (bit_and (bit_or y c) a) i ≡ bit_at (bit_and y a) i = ap (λ (n : ℕ). bit_at n i) same in
    let z : bit_at (bit_and 0 0) i ≡ _ = bit_at_and 0 0 i in
    omega (arith, d, s, bit_at_and y c i, bit_at_and (bit_or y c) a i, bit_at_or y c i, bit_at_and y a i, bit_at_and c a i))

agreed : (x : MatchField) (v : ℕ) → agrees x (Some v) ≡ true → bit_and v (bits_looked_at x) ≡ x.value
agreed x v h = eqb-true _ _ h

within_found : (x y : MatchField) → IsKept x → IsKept y → y.field ≡ x.field → bit_and y.value (bits_looked_at x) ≡ x.value → bit_and (bit_or y.value (others x.field y)) (bits_looked_at x) ≡ x.value → is_within x y ≡ true
within_found x y kx ky same one two =
    let small : bits_looked_at y ≤ ones_of x.field = bits_within x.field y (ky, same) in
    let fits : bits_looked_at x ≤ ones_of x.field = bits_within x.field x (kx, refl) in
    let under : bit_and y.value (bits_looked_at y) ≡ y.value = covered y ky in
    let disjoint : bit_and y.value (others x.field y) ≡ 0 = same_from_bits _ _ (λ i.
    let u : bit_at (bit_and y.value (bits_looked_at y)) i ≡ bit_at y.value i = ap (λ (n : ℕ). bit_at n i) under in
    let a : bit_at (bit_and (others x.field y) (bits_looked_at y)) i ≡ bit_at 0 i = ap (λ (n : ℕ). bit_at n i) (apart x.field y small) in
    omega (arith, u, a, bit_at_and y.value (bits_looked_at y) i, bit_at_and (others x.field y) (bits_looked_at y) i, bit_at_and y.value (others x.field y) i)) in
    let none : bit_and (others x.field y) (bits_looked_at x) ≡ 0 = no_other y.value (bits_looked_at x) (others x.field y) disjoint (two ∙ sym one) in
    let all : bit_and (bits_looked_at y) (bits_looked_at x) ≡ bits_looked_at x = omega (arith, none, parted x.field y (bits_looked_at x) small fits) in
    let number : eqb (number_of y.field) (number_of x.field) ≡ true = eq-eqb _ _ (ap number_of same) in
    let wide : eqb (bit_and (bits_looked_at x) (bits_looked_at y)) (bits_looked_at x) ≡ true = eq-eqb _ _ (and_comm (bits_looked_at x) (bits_looked_at y) ∙ all) in
    let value : eqb (bit_and y.value (bits_looked_at x)) x.value ≡ true = eq-eqb _ _ one in
    rw (number, wide, value) refl

found_any : (p : MatchField → Bool) (m : List MatchField) (f : Field) (y : MatchField) → first_at m f ≡ Some y → p y ≡ true → list_any p m ≡ true
found_any p [] f y e h = absurd cc
found_any p (z ∷ zs) f y e h =
    let split : (b : Bool) → cond b (Some z) (first_at zs f) ≡ Some y → (p z || list_any p zs) ≡ true
    = λ b. elim b as (λ b. cond b (Some z) (first_at zs f) ≡ Some y → (p z || list_any p zs) ≡ true) [
      | true ↦ λ k. let same : z ≡ y = cc in rw (same, h) refl
      | false ↦ λ k. or_right (p z) (list_any p zs) (found_any p zs f y k h)
    ] in
    split (eqb (number_of z.field) (number_of f)) e
  where
    or_right : (a b : Bool) → b ≡ true → (a || b) ≡ true
    or_right true b h = refl
    or_right false b h = h

abbrev Forces : List MatchField → MatchField → Type 0
Forces m x = (map : Field → Option ℕ) → IsWithinBits map → matches_map m map ≡ true → agrees x (map x.field) ≡ true

one_within : (m : List MatchField) (x : MatchField) → IsMatch m → IsKept x → Forces m x → list_any (λ y. is_within x y) m ≡ true
unfolding filled
one_within m x fine kx h =
    let found = λ (f : Field). found_if m f (first_at m f) fine.each refl in
    let one : agrees x (value_of m x.field) ≡ true = h (value_of m) (λ f. plain_within f (first_at m f) (found f)) (seen_matched m (value_of m) fine (λ f. plain_seen f (first_at m f) (found f))) in
    let two : agrees x (filled m x.field) ≡ true = h (filled m) (λ f. filled_within f (first_at m f) (found f)) (seen_matched m (filled m) fine (λ f. filled_seen f (first_at m f) (found f))) in
    at_found (first_at m x.field) refl (found x.field) one two
  where
    at_found : (o : Option MatchField) → first_at m x.field ≡ o → IfSome o (λ y. IsKept y × (y.field ≡ x.field)) → agrees x (option_map (λ (y : MatchField). y.value) o) ≡ true → agrees x (option_map (λ (y : MatchField). bit_or y.value (others x.field y)) o) ≡ true → list_any (λ y. is_within x y) m ≡ true
    at_found None e k one two = absurd cc
    at_found (Some y) e k one two = found_any (λ z. is_within x z) m x.field y e (within_found x y kx k.0 k.1 (agreed x y.value one) (agreed x (bit_or y.value (others x.field y)) two))

pub matched_covers : (d m : List MatchField) → AllByRecursion IsKept d → IsMatch m → ((map : Field → Option ℕ) → IsWithinBits map → matches_map m map ≡ true → matches_map d map ≡ true) → covers_match d m ≡ true
matched_covers [] m each fine h = refl
matched_covers (x ∷ xs) m each fine h =
    let here = λ (map : Field → Option ℕ) (w : IsWithinBits map) (k : matches_map m map ≡ true). and_true (agrees x (map x.field)) (matches_map xs map) (h map w k) in
    rw (one_within m x fine each.0 (λ map w k. (here map w k).0)) (matched_covers xs m each.1 fine (λ map w k. (here map w k).1))
