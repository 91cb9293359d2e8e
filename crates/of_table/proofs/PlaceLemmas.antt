-- The first element that passes, by its place.
use Rattle.std.proofs.Common.{◌≡◌, ℕ, ◌+◌, ◌<◌, suc, Bool, true, false, not, cond, ◌||◌, List, [], ◌∷◌, length, Some, None, refl, ap, ◌∙◌, arith}
use Rattle.std.specs.Prelude.{position, find, filter, map, nat_lt}
use Rattle.std.{specs.List.list_any, specs.List.position_or_len, specs.Option.option_map, proofs.lemmas.Bool.Decides.nat_tests}

pub any-place : {X : Type 0} (p : X → Bool) (xs : List X) → list_any p xs ≡ nat_lt (position_or_len p xs) (length xs)
any-place p [] = refl
any-place p (x ∷ xs) = grind (arith, nat_tests, any-place p xs)

pub position_some : {X : Type 0} (p : X → Bool) (xs : List X) (k : ℕ) → position p xs ≡ Some k → (k ≡ position_or_len p xs) × (k < length xs)
position_some p xs k h = by_test (nat_lt (position_or_len p xs) (length xs)) refl h
  where
    by_test : (b : Bool) → nat_lt (position_or_len p xs) (length xs) ≡ b → cond b (Some (position_or_len p xs)) None ≡ Some k → (k ≡ position_or_len p xs) × (k < length xs)
    by_test true e g =
        let same : k ≡ position_or_len p xs = cc in
        (same, grind (arith, nat_tests))
    by_test false e g = absurd cc

pub position_some-any : {X : Type 0} (p : X → Bool) (xs : List X) (k : ℕ) → position p xs ≡ Some k → list_any p xs ≡ true
position_some-any p xs k h =
    let s = position_some p xs k h in
    grind (arith, nat_tests, any-place p xs, s.0, s.1)

pub position_none : {X : Type 0} (p : X → Bool) (xs : List X) → position p xs ≡ None → list_any p xs ≡ false
position_none p xs h = any-place p xs ∙ by_test (nat_lt (position_or_len p xs) (length xs)) h
  where
    by_test : (b : Bool) → cond b (Some (position_or_len p xs)) None ≡ None → b ≡ false
    by_test true g = absurd cc
    by_test false g = refl

pub position-first : {X : Type 0} (p : X → Bool) (x : X) (xs : List X) → p x ≡ true → position p (x ∷ xs) ≡ Some 0
position-first p x xs e =
    let test : nat_lt 0 (suc (length xs)) ≡ true = grind (arith, nat_tests) in
    rw (e, test) refl

pub position-later : {X : Type 0} (p : X → Bool) (x : X) (xs : List X) → p x ≡ false → position p (x ∷ xs) ≡ option_map (λ n. n + 1) (position p xs)
position-later p x xs e = rw e (by_test (nat_lt (position_or_len p xs) (length xs)) refl)
  where
    by_test : (b : Bool) → nat_lt (position_or_len p xs) (length xs) ≡ b → cond (nat_lt (1 + position_or_len p xs) (suc (length xs))) (Some (1 + position_or_len p xs)) None ≡ option_map (λ n. n + 1) (cond b (Some (position_or_len p xs)) None)
    by_test true f =
        let test : nat_lt (1 + position_or_len p xs) (suc (length xs)) ≡ true = grind (arith, nat_tests) in
        rw test (ap Some (omega arith))
    by_test false f =
        let test : nat_lt (1 + position_or_len p xs) (suc (length xs)) ≡ false = grind (arith, nat_tests) in
        rw test refl

-- ---- of a list seen through a function

pub place-map : {X Y : Type 0} (g : X → Y) (p : Y → Bool) (xs : List X) → position_or_len p (map g xs) ≡ position_or_len (λ x. p (g x)) xs
place-map g p [] = refl
place-map g p (x ∷ xs) = rw (place-map g p xs) refl

pub any-map : {X Y : Type 0} (g : X → Y) (p : Y → Bool) (xs : List X) → list_any p (map g xs) ≡ list_any (λ x. p (g x)) xs
any-map g p [] = refl
any-map g p (x ∷ xs) = rw (any-map g p xs) refl

pub find-map : {X Y : Type 0} (g : X → Y) (p : Y → Bool) (xs : List X) → find p (map g xs) ≡ option_map g (find (λ x. p (g x)) xs)
find-map g p [] = refl
find-map {X} {Y} g p (x ∷ xs) = by_test (p (g x)) (find-map g p xs)
  where
    by_test : (b : Bool) → find p (map g xs) ≡ option_map g (find (λ y. p (g y)) xs) → cond b (Some (g x)) (find p (map g xs)) ≡ option_map g (cond b (Some x) (find (λ y. p (g y)) xs))
    by_test true ih = refl
    by_test false ih = ih

-- where none passes, none is found and a filter of the others keeps all
pub find_none : {X : Type 0} (p : X → Bool) (xs : List X) → list_any p xs ≡ false → find p xs ≡ None
find_none p [] h = refl
find_none p (x ∷ xs) h = by_test (p x) h (find_none p xs)
  where
    by_test : (b : Bool) → (b || list_any p xs) ≡ false → (list_any p xs ≡ false → find p xs ≡ None) → cond b (Some x) (find p xs) ≡ None
    by_test true g ih = absurd cc
    by_test false g ih = ih g

pub filter_others : {X : Type 0} (p : X → Bool) (xs : List X) → list_any p xs ≡ false → filter (λ x. not (p x)) xs ≡ xs
filter_others p [] h = refl
filter_others {X} p (x ∷ xs) h = by_test (p x) h (filter_others p xs)
  where
    by_test : (b : Bool) → (b || list_any p xs) ≡ false → (list_any p xs ≡ false → filter (λ y. not (p y)) xs ≡ xs) → cond (not b) (x ∷ filter (λ y. not (p y)) xs) (filter (λ y. not (p y)) xs) ≡ x ∷ xs
    by_test true g ih = absurd cc
    by_test false g ih = ap (λ (ys : List X). x ∷ ys) (ih g)

pub filter-map : {X Y : Type 0} (g : X → Y) (p : Y → Bool) (xs : List X) → filter p (map g xs) ≡ map g (filter (λ x. p (g x)) xs)
filter-map g p [] = refl
filter-map {X} {Y} g p (x ∷ xs) = by_test (p (g x)) (filter-map g p xs)
  where
    by_test : (b : Bool) → filter p (map g xs) ≡ map g (filter (λ y. p (g y)) xs) → cond b (g x ∷ filter p (map g xs)) (filter p (map g xs)) ≡ map g (cond b (x ∷ filter (λ y. p (g y)) xs) (filter (λ y. p (g y)) xs))
    by_test true ih = ap (λ (ys : List Y). g x ∷ ys) ih
    by_test false ih = ih
