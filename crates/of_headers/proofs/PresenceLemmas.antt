-- Words of presence and numbers of keys: bit by bit, and place by place.
use Rattle.std.proofs.Common.{◌≡◌, ℕ, zero, suc, ◌*◌, ◌^◌, ◌<◌, ◌≢◌, min, max, Bool, true, false, cond, List, [], ◌∷◌, length, get_or, set, replicate, Some, None, refl, sym, ap, ◌∙◌, arith, get_or-set_same, get_or-set_other}
use Rattle.std.proofs.lemmas.Nat.Bits.{and_pow, bit_at-lt, bit_at-zero, bit_at_and, bit_at_or, bit_at-pow_same, bit_at-pow_other, same_from_bits}
use Rattle.std.{specs.Prelude.◌==◌, specs.Prelude.bit_and, specs.Prelude.bit_or, specs.Int.bit_at, specs.Int.Bits.and_zero_r, proofs.lemmas.Bool.eqb-true, proofs.lemmas.Bool.eq-eqb}
use Rattle.std.proofs.lemmas.Nat.{pow_pos}
use Rattle.of_layers.{specs.declared.field.Field.Field, specs.declared.field.Field.TheVariants.InPort, specs.Fields.row_of, specs.Fields.number_of, proofs.Table.number_below}
use Rattle.of_headers.specs.{declared.key.FieldKey.FieldKey, Presence.AreFields, Presence.AbsentAreZero, Presence.all_bits, Numbers.numbers_in, Numbers.bits_both, Numbers.bits_either}
use Rattle.of_headers.specs.FieldMap.{there, value, seen, either}

-- ---- fewer fields: the bits of both words, and of the numbers in one place

get_or-bits_both : (xs ys : List ℕ) (n : ℕ) → get_or (bits_both xs ys) n 0 ≡ bit_and (get_or xs n 0) (get_or ys n 0)
get_or-bits_both [] ys n = refl
get_or-bits_both (x ∷ xs) [] n = sym (and_zero_r (get_or (x ∷ xs) n 0))
get_or-bits_both (x ∷ xs) (y ∷ ys) zero = refl
get_or-bits_both (x ∷ xs) (y ∷ ys) (suc n) = get_or-bits_both xs ys n

zero_of_two : (i j x y : ℕ) → (i ≡ 0 → x ≡ 0) → (j ≡ 0 → y ≡ 0) → min i j ≡ 0 → bit_and x y ≡ 0
zero_of_two zero j x y a b e = let x_is : x ≡ 0 = a refl in rw x_is refl
zero_of_two (suc i) zero x y a b e = let y_is : y ≡ 0 = b refl in rw y_is (and_zero_r x)
zero_of_two (suc i) (suc j) x y a b e = absurd (omega arith)

pub absent_under : (p q : ℕ) (xs ys : List ℕ) → AbsentAreZero p xs → AbsentAreZero q ys → AbsentAreZero (bit_and p q) (bits_both xs ys)
absent_under p q xs ys a b f e =
    let n : ℕ = number_of f in
    get_or-bits_both xs ys n ∙ zero_of_two (bit_at p n) (bit_at q n) (get_or xs n 0) (get_or ys n 0) (a f) (b f) (sym (bit_at_and p q n) ∙ e)

pub within : (p : ℕ) → AreFields p → (i : ℕ) → min (bit_at p i) (bit_at all_bits i) ≡ bit_at p i
within p h i = sym (bit_at_and p all_bits i) ∙ ap (λ (m : ℕ). bit_at m i) h

both_within : (m p q k : ℕ) → m ≡ min p q → min p k ≡ p → min m k ≡ m
both_within m p q k a b = omega arith

pub fields_under : (p q : ℕ) → AreFields p → AreFields (bit_and p q)
fields_under p q h = same_from_bits (bit_and (bit_and p q) all_bits) (bit_and p q) (λ i.
    bit_at_and (bit_and p q) all_bits i ∙ both_within (bit_at (bit_and p q) i) (bit_at p i) (bit_at q i) (bit_at all_bits i) (bit_at_and p q i) (within p h i))

seen_by : (i j x y : ℕ) → i < 2 → j < 2 → cond (min i j == 1) (Some (bit_and x y)) None ≡ seen (cond (j == 1) (Some y) None) (cond (i == 1) (Some x) None)
seen_by zero zero x y a b = refl
seen_by zero (suc zero) x y a b = refl
seen_by (suc zero) zero x y a b = refl
seen_by (suc zero) (suc zero) x y a b = refl
seen_by zero (suc (suc j)) x y a b = absurd (omega arith)
seen_by (suc zero) (suc (suc j)) x y a b = absurd (omega arith)
seen_by (suc (suc i)) j x y a b = absurd (omega arith)

pub there_under : (p q n x y : ℕ) → there (bit_and p q) n (bit_and x y) ≡ seen (there q n y) (there p n x)
there_under p q n x y =
    ap (λ (b : ℕ). cond (b == 1) (Some (bit_and x y)) None) (bit_at_and p q n) ∙ seen_by (bit_at p n) (bit_at q n) x y (bit_at-lt p n) (bit_at-lt q n)

pub value_under : (j k r : FieldKey) → r.numbers.present ≡ bit_and j.numbers.present k.numbers.present → numbers_in r.numbers ≡ bits_both (numbers_in j.numbers) (numbers_in k.numbers) → (f : Field) → value r f ≡ seen (value k f) (value j f)
unfolding value
value_under j k r p e f =
    ap (λ (w : ℕ). there w (number_of f) (get_or (numbers_in r.numbers) (number_of f) 0)) p
    ∙ ap (λ (xs : List ℕ). there (bit_and j.numbers.present k.numbers.present) (number_of f) (get_or xs (number_of f) 0)) e
    ∙ ap (there (bit_and j.numbers.present k.numbers.present) (number_of f)) (get_or-bits_both (numbers_in j.numbers) (numbers_in k.numbers) (number_of f))
    ∙ there_under j.numbers.present k.numbers.present (number_of f) (get_or (numbers_in j.numbers) (number_of f) 0) (get_or (numbers_in k.numbers) (number_of f) 0)

-- ---- one more field

either_within : (m p q k : ℕ) → m ≡ max p q → min p k ≡ p → min q k ≡ q → min m k ≡ m
either_within m p q k a b c = omega arith

pub fields_or : (p q : ℕ) → AreFields p → AreFields q → AreFields (bit_or p q)
fields_or p q h g = same_from_bits (bit_and (bit_or p q) all_bits) (bit_or p q) (λ i.
    bit_at_and (bit_or p q) all_bits i
    ∙ either_within (bit_at (bit_or p q) i) (bit_at p i) (bit_at q i) (bit_at all_bits i) (bit_at_or p q i) (within p h i) (within q g i))

-- ---- the fields of two words, and the bits of two numbers in one place

or_zero_l : (n : ℕ) → bit_or 0 n ≡ n
or_zero_l n = same_from_bits _ _ (λ i. omega (arith, bit_at_or 0 n i, bit_at-zero i))

or_zero_r : (n : ℕ) → bit_or n 0 ≡ n
or_zero_r n = same_from_bits _ _ (λ i. omega (arith, bit_at_or n 0 i, bit_at-zero i))

get_or-bits_either : (xs ys : List ℕ) (n : ℕ) → get_or (bits_either xs ys) n 0 ≡ bit_or (get_or xs n 0) (get_or ys n 0)
get_or-bits_either [] ys n = sym (or_zero_l (get_or ys n 0))
get_or-bits_either (x ∷ xs) [] n = sym (or_zero_r (get_or (x ∷ xs) n 0))
get_or-bits_either (x ∷ xs) (y ∷ ys) zero = refl
get_or-bits_either (x ∷ xs) (y ∷ ys) (suc n) = get_or-bits_either xs ys n

zero_of_both : (i j x y : ℕ) → (i ≡ 0 → x ≡ 0) → (j ≡ 0 → y ≡ 0) → max i j ≡ 0 → bit_or x y ≡ 0
zero_of_both i j x y a b e = let x_is : x ≡ 0 = a (omega arith) in let y_is : y ≡ 0 = b (omega arith) in rw (x_is, y_is) refl

pub absent_or : (p q : ℕ) (xs ys : List ℕ) → AbsentAreZero p xs → AbsentAreZero q ys → AbsentAreZero (bit_or p q) (bits_either xs ys)
absent_or p q xs ys a b f e =
    let n : ℕ = number_of f in
    get_or-bits_either xs ys n ∙ zero_of_both (bit_at p n) (bit_at q n) (get_or xs n 0) (get_or ys n 0) (a f) (b f) (sym (bit_at_or p q n) ∙ e)

either_by : (i j x y : ℕ) → i < 2 → j < 2 → (i ≡ 0 → x ≡ 0) → (j ≡ 0 → y ≡ 0) → cond (max i j == 1) (Some (bit_or x y)) None ≡ either (cond (i == 1) (Some x) None) (cond (j == 1) (Some y) None)
either_by zero zero x y a b g h = refl
either_by zero (suc zero) x y a b g h = let x_is : x ≡ 0 = g refl in ap Some (ap (λ (k : ℕ). bit_or k y) x_is ∙ or_zero_l y)
either_by (suc zero) zero x y a b g h = let y_is : y ≡ 0 = h refl in ap Some (ap (bit_or x) y_is ∙ or_zero_r x)
either_by (suc zero) (suc zero) x y a b g h = refl
either_by zero (suc (suc j)) x y a b g h = absurd (omega arith)
either_by (suc zero) (suc (suc j)) x y a b g h = absurd (omega arith)
either_by (suc (suc i)) j x y a b g h = absurd (omega arith)

pub value_or : (j k r : FieldKey) → r.numbers.present ≡ bit_or j.numbers.present k.numbers.present → numbers_in r.numbers ≡ bits_either (numbers_in j.numbers) (numbers_in k.numbers) → (f : Field) → value r f ≡ either (value j f) (value k f)
unfolding value
value_or j k r p e f =
    let n : ℕ = number_of f in
    ap (λ (w : ℕ). there w (number_of f) (get_or (numbers_in r.numbers) (number_of f) 0)) p
    ∙ ap (λ (xs : List ℕ). there (bit_or j.numbers.present k.numbers.present) (number_of f) (get_or xs (number_of f) 0)) e
    ∙ ap (there (bit_or j.numbers.present k.numbers.present) (number_of f)) (get_or-bits_either (numbers_in j.numbers) (numbers_in k.numbers) (number_of f))
    ∙ ap (λ (b : ℕ). cond (b == 1) (Some (bit_or (get_or (numbers_in j.numbers) n 0) (get_or (numbers_in k.numbers) n 0))) None) (bit_at_or j.numbers.present k.numbers.present n)
    ∙ either_by (bit_at j.numbers.present n) (bit_at k.numbers.present n) (get_or (numbers_in j.numbers) n 0) (get_or (numbers_in k.numbers) n 0) (bit_at-lt j.numbers.present n) (bit_at-lt k.numbers.present n) (j.absent f) (k.absent f)

bit_of : (f : Field) → AreFields (2 ^ number_of f)
unfolding all_bits row_of
bit_of f = elim f as (λ f. AreFields (2 ^ number_of f)) [ InPort ↦ refl | _ ↦ refl ]

pub fields_with : (p : ℕ) (f : Field) → AreFields p → AreFields (bit_or p (2 ^ number_of f))
fields_with p f h = fields_or p (2 ^ number_of f) h (bit_of f)

bit_set : (p n : ℕ) → bit_at (bit_or p (2 ^ n)) n ≡ 1
bit_set p n = omega (arith, bit_at_or p (2 ^ n) n, bit_at-pow_same n, bit_at-lt p n)

bit_kept : (p n i : ℕ) → i ≢ n → bit_at (bit_or p (2 ^ n)) i ≡ bit_at p i
bit_kept p n i h = omega (arith, bit_at_or p (2 ^ n) i, bit_at-pow_other n i h)

pub absent_with : (p : ℕ) (f : Field) (v : ℕ) (xs : List ℕ) → AbsentAreZero p xs → AbsentAreZero (bit_or p (2 ^ number_of f)) (set xs (number_of f) v)
absent_with p f v xs a g e =
    let n : ℕ = number_of f in
    let i : ℕ = number_of g in
    let other : i ≢ n = λ s. (let one : bit_at (bit_or p (2 ^ n)) i ≡ 1 = ap (λ (k : ℕ). bit_at (bit_or p (2 ^ n)) k) s ∙ bit_set p n in omega arith) in
    get_or-set_other xs n i v 0 other ∙ a g (sym (bit_kept p n i other) ∙ e)

there_with : (p n v m : ℕ) (xs : List ℕ) → n < length xs → there (bit_or p (2 ^ n)) m (get_or (set xs n v) m 0) ≡ cond (m == n) (Some v) (there p m (get_or xs m 0))
there_with p n v m xs h =
    let split : (b : Bool) → (m == n) ≡ b → there (bit_or p (2 ^ n)) m (get_or (set xs n v) m 0) ≡ cond b (Some v) (there p m (get_or xs m 0))
    = λ b. elim b as (λ b. (m == n) ≡ b → there (bit_or p (2 ^ n)) m (get_or (set xs n v) m 0) ≡ cond b (Some v) (there p m (get_or xs m 0))) [
      | true ↦ λ e.
          let same : m ≡ n = eqb-true m n e in
          let set_is : bit_at (bit_or p (2 ^ n)) n ≡ 1 = bit_set p n in
          let v_is : get_or (set xs n v) n 0 ≡ v = get_or-set_same xs n v 0 h in
          rw (same, set_is, v_is) refl
      | false ↦ λ e.
          let other : m ≢ n = λ s. (let yes : (m == n) ≡ true = eq-eqb m n s in cc) in
          let kept : bit_at (bit_or p (2 ^ n)) m ≡ bit_at p m = bit_kept p n m other in
          let v_is : get_or (set xs n v) m 0 ≡ get_or xs m 0 = get_or-set_other xs n m v 0 other in
          rw (kept, v_is) refl
    ] in
    split (m == n) refl

pub value_with : (k r : FieldKey) (f : Field) (v : ℕ) → r.numbers.present ≡ bit_or k.numbers.present (2 ^ number_of f) → numbers_in r.numbers ≡ set (numbers_in k.numbers) (number_of f) v →
    (g : Field) → value r g ≡ cond (number_of g == number_of f) (Some v) (value k g)
unfolding value
value_with k r f v p e g =
    ap (λ (w : ℕ). there w (number_of g) (get_or (numbers_in r.numbers) (number_of g) 0)) p
    ∙ ap (λ (xs : List ℕ). there (bit_or k.numbers.present (2 ^ number_of f)) (number_of g) (get_or xs (number_of g) 0)) e
    ∙ there_with k.numbers.present (number_of f) v (number_of g) (numbers_in k.numbers) (number_below f)

-- ---- one field

pub zeros_absent : AbsentAreZero 0 (replicate 31 0)
zeros_absent f e = zeros 31 (number_of f)
  where
    zeros : (m n : ℕ) → ◌≡◌ {A = ℕ} (get_or (replicate m 0) n 0) 0
    zeros zero n = refl
    zeros (suc m) zero = refl
    zeros (suc m) (suc n) = zeros m n

by_bit : (b m : ℕ) → b < 2 → 0 < m → b * m ≡ 0 → b ≡ 0
by_bit zero m l h e = refl
by_bit (suc zero) m l h e = absurd (omega arith)
by_bit (suc (suc b)) m l h e = absurd (omega arith)

bit_zero : (p n : ℕ) → bit_and p (2 ^ n) ≡ 0 → bit_at p n ≡ 0
bit_zero p n e = by_bit (bit_at p n) (2 ^ n) (bit_at-lt p n) (pow_pos n) (sym (and_pow p n) ∙ e)

bit_one : (p n : ℕ) → bit_and p (2 ^ n) ≢ 0 → bit_at p n ≡ 1
bit_one p n h =
    let not_zero : bit_at p n ≢ 0 = λ z. h (let e : bit_and p (2 ^ n) ≡ 0 * 2 ^ n = and_pow p n ∙ ap (λ (b : ℕ). b * 2 ^ n) z in omega arith) in
    omega (arith, bit_at-lt p n, not_zero)

pub value_none : (k : FieldKey) (f : Field) → bit_and k.numbers.present (2 ^ number_of f) ≡ 0 → None ≡ value k f
unfolding value
value_none k f e = let off : bit_at k.numbers.present (number_of f) ≡ 0 = bit_zero k.numbers.present (number_of f) e in rw off refl

pub value_some : (k : FieldKey) (f : Field) (v : ℕ) → v ≡ get_or (numbers_in k.numbers) (number_of f) 0 → bit_and k.numbers.present (2 ^ number_of f) ≢ 0 → Some v ≡ value k f
unfolding value
value_some k f v e h = let on : bit_at k.numbers.present (number_of f) ≡ 1 = bit_one k.numbers.present (number_of f) h in rw on (ap Some e)
