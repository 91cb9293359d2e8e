-- The oldest of the highest, one more element at a time, and what it is.
use Rattle.std.proofs.Common.{◌≡◌, ℕ, ◌<◌, ◌≤◌, Bool, true, false, cond, List, [], ◌∷◌, ◌++◌, Option, Some, None, max, refl, sym, ◌∙◌, arith, inl, inr, ◌⊎◌, ⊎_elim}
use Rattle.std.specs.{Prelude.find, Prelude.map, Prelude.nat_le, Prelude.if◌then◌else◌, List.list_all, Option.option_or, Option.option_map}
use Rattle.std.proofs.{lemmas.Bool.cases_lt, lemmas.Bool.Decides.nat_tests, lemmas.List.Folds.find-append}
use Rattle.of_wire.specs.Highest.{oldest_highest}

-- the better of the best so far and one more element, which has to rank higher
abbrev pub better : {X : Type 0} → (X → ℕ) → Option X → X → Option X
better rank None x = Some x
better rank (Some best) x = if nat_le (rank x) (rank best) then Some best else Some x

-- the highest rank
abbrev top : {X : Type 0} → (X → ℕ) → List X → ℕ
top rank [] = 0
top rank (x ∷ xs) = max (rank x) (top rank xs)

-- the oldest of at least that rank
abbrev at_least : {X : Type 0} → (X → ℕ) → ℕ → List X → Option X
at_least rank p xs = find (λ x. nat_le p (rank x)) xs

list_all-top : {X : Type 0} (rank : X → ℕ) (p : ℕ) (xs : List X) → list_all (λ y. nat_le (rank y) p) xs ≡ nat_le (top rank xs) p
list_all-top rank p [] = grind (arith, nat_tests)
list_all-top rank p (x ∷ xs) = grind (arith, nat_tests, list_all-top rank p xs)

find_same : {X : Type 0} (p q : X → Bool) → ((x : X) → p x ≡ q x) → (xs : List X) → find p xs ≡ find q xs
find_same p q h [] = refl
find_same p q h (x ∷ xs) = rw (h x, find_same p q h xs) refl

oldest-top : {X : Type 0} (rank : X → ℕ) (xs : List X) → oldest_highest rank xs ≡ at_least rank (top rank xs) xs
oldest-top rank xs = find_same _ _ (λ x. list_all-top rank (rank x) xs) xs

top-append : {X : Type 0} (rank : X → ℕ) (xs : List X) (x : X) → top rank (xs ++ x ∷ []) ≡ max (top rank xs) (rank x)
top-append rank [] x = omega arith
top-append rank (y ∷ ys) x = omega (arith, top-append rank ys x)

none_reaches : {X : Type 0} (rank : X → ℕ) (p : ℕ) (xs : List X) → top rank xs < p → at_least rank p xs ≡ None
none_reaches rank p [] lt = refl
none_reaches rank p (x ∷ xs) lt = let rest : at_least rank p xs ≡ None = none_reaches rank p xs (omega arith) in grind (arith, nat_tests, rest)

-- what is found at the top has its rank
record Reaches {X : Type 0} (rank : X → ℕ) (p : ℕ) (found : Option X) : Type 0 where
  element : X
  is : found ≡ Some element
  ranks : rank element ≡ p

by_first : {X : Type 0} (rank : X → ℕ) (p : ℕ) (x : X) (xs : List X) → (rank x < p → Reaches rank p (at_least rank p xs)) → (rank x < p) ⊎ (p ≤ rank x) → rank x ≤ p → Reaches rank p (at_least rank p (x ∷ xs))
by_first rank p x xs later (inl lt) le =
    let rest = later lt in
    let first : nat_le p (rank x) ≡ false = grind (arith, nat_tests) in
    record { element = rest.element; is = rw first rest.is; ranks = rest.ranks }
by_first rank p x xs later (inr above) le =
    let first : nat_le p (rank x) ≡ true = grind (arith, nat_tests) in
    record { element = x; is = rw first refl; ranks = omega arith }

top_reached : {X : Type 0} (rank : X → ℕ) (p : ℕ) (x : X) (xs : List X) → p ≡ top rank (x ∷ xs) → Reaches rank p (at_least rank p (x ∷ xs))
top_reached rank p x [] e = by_first rank p x [] (λ lt. absurd (omega arith)) (cases_lt (rank x) p) (omega arith)
top_reached rank p x (y ∷ ys) e = by_first rank p x (y ∷ ys) (λ lt. top_reached rank p y ys (omega arith)) (cases_lt (rank x) p) (omega arith)

oldest-append : {X : Type 0} (rank : X → ℕ) (xs : List X) (x : X) → oldest_highest rank (xs ++ x ∷ []) ≡ option_or (at_least rank (max (top rank xs) (rank x)) xs) (at_least rank (max (top rank xs) (rank x)) (x ∷ []))
oldest-append rank xs x = rw (oldest-top rank (xs ++ x ∷ []), top-append rank xs x) (find-append _ xs (x ∷ []))

with_found : {X : Type 0} (rank : X → ℕ) (xs : List X) (x : X) → Reaches rank (top rank xs) (at_least rank (top rank xs) xs) → (rank x ≤ top rank xs) ⊎ (top rank xs < rank x) → oldest_highest rank (xs ++ x ∷ []) ≡ better rank (oldest_highest rank xs) x
with_found rank xs x found (inl le) =
    let same : max (top rank xs) (rank x) ≡ top rank xs = omega arith in
    let test : nat_le (rank x) (rank found.element) ≡ true = grind (arith, nat_tests, found.ranks) in
    rw (oldest-append rank xs x, oldest-top rank xs, same, found.is, test) refl
with_found rank xs x found (inr lt) =
    let other : max (top rank xs) (rank x) ≡ rank x = omega arith in
    let test : nat_le (rank x) (rank found.element) ≡ false = grind (arith, nat_tests, found.ranks) in
    let itself : nat_le (rank x) (rank x) ≡ true = grind (arith, nat_tests) in
    rw (oldest-append rank xs x, oldest-top rank xs, other, none_reaches rank (rank x) xs lt, found.is, test, itself) refl

le_or_lt : (a b : ℕ) → (a ≤ b) ⊎ (b < a)
le_or_lt a b = ⊎_elim (λ lt. inr lt) (λ le. inl le) (cases_lt b a)

-- one more element
pub oldest_more : {X : Type 0} (rank : X → ℕ) (xs : List X) (x : X) → oldest_highest rank (xs ++ x ∷ []) ≡ better rank (oldest_highest rank xs) x
oldest_more rank [] x = let first : nat_le (rank x) (rank x) ≡ true = grind (arith, nat_tests) in rw first refl
oldest_more rank (y ∷ ys) x = with_found rank (y ∷ ys) x (top_reached rank _ y ys refl) (le_or_lt (rank x) (top rank (y ∷ ys)))

-- ---- of a list seen through a function

find-map : {X Y : Type 0} (g : X → Y) (p : Y → Bool) (xs : List X) → find p (map g xs) ≡ option_map g (find (λ x. p (g x)) xs)
find-map g p [] = refl
find-map {X} {Y} g p (x ∷ xs) = by_test (p (g x)) (find-map g p xs)
  where
    by_test : (b : Bool) → find p (map g xs) ≡ option_map g (find (λ y. p (g y)) xs) → cond b (Some (g x)) (find p (map g xs)) ≡ option_map g (cond b (Some x) (find (λ y. p (g y)) xs))
    by_test true ih = refl
    by_test false ih = ih

list_all-map : {X Y : Type 0} (g : X → Y) (p : Y → Bool) (xs : List X) → list_all p (map g xs) ≡ list_all (λ x. p (g x)) xs
list_all-map g p [] = refl
list_all-map g p (x ∷ xs) = rw (list_all-map g p xs) refl

-- ---- of no element alone there is none

pub oldest_highest-none : {X : Type 0} (rank : X → ℕ) (xs : List X) → oldest_highest rank xs ≡ None → xs ≡ []
oldest_highest-none rank [] h = refl
oldest_highest-none rank (x ∷ xs) h =
    let found = top_reached rank _ x xs refl in
    let e = sym h ∙ oldest-top rank (x ∷ xs) ∙ found.is in
    absurd cc
