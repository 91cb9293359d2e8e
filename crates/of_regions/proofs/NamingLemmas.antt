-- Places that are named.
use Rattle.std.proofs.Common.{◌≡◌, ℕ, ◌<◌, ◌≤◌, ◌⊎◌, zero, suc, Bool, true, false, cond, eqb, leb, ltb, Some, None, List, [], ◌∷◌, ◌++◌, length, get_or, refl, sym, ap, subst, ◌∙◌, arith, inl, inr}
use Rattle.std.specs.List.{AllByRecursion, Contains, insert, position, position_or_len}
use Rattle.std.proofs.lemmas.Bool.{eqb-true, eq-eqb, leb-true, leb-false, ltb-true, ltb-false}
use Rattle.std.specs.Prelude.{nat_le, slice_index_or}
use Rattle.of_regions.specs.Naming.{AreAscending, IsNamed, with_place}

behind : (x i : ℕ) (xs : List ℕ) → Contains xs i → Contains (x ∷ xs) i
behind x i xs c = (suc c.0, omega (arith, c.1), c.2)

pub first_or_behind : (x i : ℕ) (xs : List ℕ) → Contains (x ∷ xs) i → Contains xs i ⊎ (x ≡ i)
first_or_behind x i xs c = at c.0 c.1 c.2
  where
    at : (k : ℕ) → k < length (x ∷ xs) → slice_index_or (x ∷ xs) k i ≡ i → Contains xs i ⊎ (x ≡ i)
    at zero lt is = inr is
    at (suc k) lt is = inl (k, omega (arith, lt), is)

-- ---- in ascending order

-- the test of the first place that is not below j
abbrev pub from : ℕ → ℕ → Bool
from j i = nat_le j i

module _ (j x : ℕ) (xs : List ℕ) where
  twice : (n : ℕ) (b : Bool) → eqb (get_or xs n 0) j ≡ b → with_place j xs ≡ cond b xs (insert xs n j) → x ∷ with_place j xs ≡ cond b (x ∷ xs) (insert (x ∷ xs) (suc n) j)
  twice n true e is = ap (λ (ys : List ℕ). x ∷ ys) is
  twice n false e is = ap (λ (ys : List ℕ). x ∷ ys) is

-- a place is there, or it is inserted before the first that is not below it
pub named_is : (j : ℕ) (xs : List ℕ) (m : ℕ) → m ≡ position_or_len (from j) xs → m < length xs → with_place j xs ≡ cond (eqb (get_or xs m 0) j) xs (insert xs m j)
named_is j [] m e lt = absurd (omega (arith, lt))
named_is j (x ∷ xs) m e lt = by_test (leb j x) refl (named_is j xs (position_or_len (from j) xs) refl)
  where
    by_test : (b : Bool) → leb j x ≡ b → (position_or_len (from j) xs < length xs → with_place j xs ≡ cond (eqb (get_or xs (position_or_len (from j) xs) 0) j) xs (insert xs (position_or_len (from j) xs) j)) → with_place j (x ∷ xs) ≡ cond (eqb (get_or (x ∷ xs) m 0) j) (x ∷ xs) (insert (x ∷ xs) m j)
    by_test true t rest =
        let first : m ≡ 0 = e ∙ rw t refl in
        rw (first, t) refl
    by_test false t rest =
        let later : m ≡ suc (position_or_len (from j) xs) = e ∙ rw t (omega arith) in
        let within : position_or_len (from j) xs < length xs = omega (arith, later, lt) in
        rw (later, t) (twice j x xs (position_or_len (from j) xs) (eqb (get_or xs (position_or_len (from j) xs) 0) j) refl (rest within))

-- or it comes last
pub named_last : (j : ℕ) (xs : List ℕ) → length xs ≤ position_or_len (from j) xs → with_place j xs ≡ xs ++ j ∷ []
named_last j [] le = refl
named_last j (x ∷ xs) le = by_test (leb j x) refl (named_last j xs)
  where
    by_test : (b : Bool) → leb j x ≡ b → (length xs ≤ position_or_len (from j) xs → with_place j xs ≡ xs ++ j ∷ []) → with_place j (x ∷ xs) ≡ (x ∷ xs) ++ j ∷ []
    by_test true t rest =
        let first : position_or_len (from j) (x ∷ xs) ≡ 0 = rw t refl in
        absurd (omega (arith, le, first))
    by_test false t rest =
        let later : position_or_len (from j) (x ∷ xs) ≡ suc (position_or_len (from j) xs) = rw t (omega arith) in
        rw t (ap (λ (ys : List ℕ). x ∷ ys) (rest (omega (arith, le, later))))

some_index : (b : Bool) (m n : ℕ) → cond b (Some m) None ≡ Some n → (b ≡ true) × (m ≡ n)
some_index true m n e = (refl, cc)
some_index false m n e = absurd cc

no_index : (b : Bool) (m : ℕ) → cond b (Some m) None ≡ None → b ≡ false
no_index true m e = absurd cc
no_index false m e = refl

pub record IsPlace (j : ℕ) (xs : List ℕ) (n : ℕ) : Type 0 where
  pub within : n < length xs
  pub is : with_place j xs ≡ cond (eqb (get_or xs n 0) j) xs (insert xs n j)

pub named_within : (j : ℕ) (xs : List ℕ) (n : ℕ) → position (from j) xs ≡ Some n → IsPlace j xs n
named_within j xs n e =
    let at = some_index (ltb (position_or_len (from j) xs) (length xs)) (position_or_len (from j) xs) n e in
    let within : n < length xs = omega (arith, ltb-true _ _ at.0, at.1) in
    record { within = within; is = named_is j xs n (sym at.1) within }

pub named_behind : (j : ℕ) (xs : List ℕ) → position (from j) xs ≡ None → xs ++ j ∷ [] ≡ with_place j xs
named_behind j xs e = sym (named_last j xs (ltb-false _ _ (no_index (ltb (position_or_len (from j) xs) (length xs)) (position_or_len (from j) xs) e)))

-- ---- what is named

first_there : (x : ℕ) (xs : List ℕ) → Contains (x ∷ xs) x
first_there x xs = (zero, omega arith, refl)

named_there : (j : ℕ) (xs : List ℕ) → Contains (with_place j xs) j
named_there j [] = first_there j []
named_there j (x ∷ xs) = by_test (leb j x) (eqb x j) refl (named_there j xs)
  where
    by_test : (b same : Bool) → eqb x j ≡ same → Contains (with_place j xs) j → Contains (cond b (cond same (x ∷ xs) (j ∷ x ∷ xs)) (x ∷ with_place j xs)) j
    by_test true true s rest = let e : x ≡ j = eqb-true x j s in (zero, omega arith, e)
    by_test true false s rest = first_there j (x ∷ xs)
    by_test false same s rest = behind x j (with_place j xs) rest

named_kept : (j : ℕ) (xs : List ℕ) (i : ℕ) → Contains xs i → Contains (with_place j xs) i
named_kept j [] i c = behind j i [] c
named_kept j (x ∷ xs) i c = by_test (leb j x) (eqb x j) (named_kept j xs i)
  where
    by_test : (b same : Bool) → (Contains xs i → Contains (with_place j xs) i) → Contains (cond b (cond same (x ∷ xs) (j ∷ x ∷ xs)) (x ∷ with_place j xs)) i
    by_test true true rest = c
    by_test true false rest = behind j i (x ∷ xs) c
    by_test false same rest = elim (first_or_behind x i xs c) as (λ w. Contains (x ∷ with_place j xs) i) [
      | inl old ↦ behind x i (with_place j xs) (rest old)
      | inr e ↦ subst (λ y. Contains (x ∷ with_place j xs) y) e (first_there x (with_place j xs))
    ]

named_only : (j : ℕ) (xs : List ℕ) (i : ℕ) → Contains (with_place j xs) i → Contains xs i ⊎ (j ≡ i)
named_only j [] i c = first_or_behind j i [] c
named_only j (x ∷ xs) i c = by_test (leb j x) (eqb x j) (named_only j xs i) c
  where
    by_test : (b same : Bool) → (Contains (with_place j xs) i → Contains xs i ⊎ (j ≡ i)) → Contains (cond b (cond same (x ∷ xs) (j ∷ x ∷ xs)) (x ∷ with_place j xs)) i → Contains (x ∷ xs) i ⊎ (j ≡ i)
    by_test true true rest d = inl d
    by_test true false rest d = first_or_behind j i (x ∷ xs) d
    by_test false same rest d = elim (first_or_behind x i (with_place j xs) d) as (λ w. Contains (x ∷ xs) i ⊎ (j ≡ i)) [
      | inl old ↦ elim (rest old) as (λ w. Contains (x ∷ xs) i ⊎ (j ≡ i)) [
        | inl there ↦ inl (behind x i xs there)
        | inr e ↦ inr e
      ]
      | inr e ↦ inl (subst (λ y. Contains (x ∷ xs) y) e (first_there x xs))
    ]

pub is_named : (j : ℕ) (xs : List ℕ) → IsNamed j xs (with_place j xs)
is_named j xs = record { there = named_there j xs; kept = named_kept j xs; only = named_only j xs }

-- ---- the order stays

all_above : (j x : ℕ) (xs : List ℕ) → j < x → AllByRecursion (λ y. x < y) xs → AllByRecursion (λ y. j < y) xs
all_above j x [] lt all = tt
all_above j x (y ∷ xs) lt all = (omega (arith, lt, all.0), all_above j x xs lt all.1)

named_above : (x j : ℕ) (xs : List ℕ) → x < j → AllByRecursion (λ y. x < y) xs → AllByRecursion (λ y. x < y) (with_place j xs)
named_above x j [] lt all = (lt, tt)
named_above x j (y ∷ xs) lt all = by_test (leb j y) (eqb y j) (named_above x j xs lt all.1)
  where
    by_test : (b same : Bool) → AllByRecursion (λ z. x < z) (with_place j xs) → AllByRecursion (λ z. x < z) (cond b (cond same (y ∷ xs) (j ∷ y ∷ xs)) (y ∷ with_place j xs))
    by_test true true rest = all
    by_test true false rest = (lt, all)
    by_test false same rest = (all.0, rest)

-- the order stays
pub still_ascending : (j : ℕ) (xs : List ℕ) → AreAscending xs → AreAscending (with_place j xs)
still_ascending j [] up = (tt, tt)
still_ascending j (x ∷ xs) up = by_test (leb j x) (eqb x j) refl refl (still_ascending j xs up.1)
  where
    by_test : (b same : Bool) → leb j x ≡ b → eqb x j ≡ same → AreAscending (with_place j xs) → AreAscending (cond b (cond same (x ∷ xs) (j ∷ x ∷ xs)) (x ∷ with_place j xs))
    by_test true true e s rest = up
    by_test true false e s rest =
        let le : j ≤ x = leb-true j x e in
        let other : j ≡ x → ⊥ = λ same. let no : eqb x j ≡ true = eq-eqb x j (sym same) in absurd cc in
        let lt : j < x = omega (arith, le, other) in
        ((lt, all_above j x xs lt up.0), up)
    by_test false same e s rest = (named_above x j xs (leb-false j x e) up.0, rest)
