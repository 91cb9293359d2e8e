-- Lists whose elements have numbers, after elements are added, removed and moved.
use Rattle.std.proofs.Common.{◌≡◌, ℕ, ◌<◌, suc, zero, Bool, true, false, cond, eqb, List, [], ◌∷◌, ◌++◌, length, get_or, refl, sym, ap, arith}
use Rattle.std.{specs.Prelude.remove, specs.Prelude.map, specs.Prelude.filter, proofs.lemmas.Bool.Decides.nat_tests, proofs.lemmas.Bool.Decides.eqb_tells, proofs.lemmas.List.Folds.list_any-append}
use Rattle.std.proofs.lemmas.List.{append-nil}
use Rattle.of_wire.specs.Numbered.{is_used, is_distinct, without, only, moved_to_end}

-- ---- one more element

pub distinct-push : {X : Type 0} (f : X → ℕ) (xs : List X) (x : X) → is_distinct f xs ≡ true → is_used f (f x) xs ≡ false → is_distinct f (xs ++ x ∷ []) ≡ true
distinct-push f [] x d u = refl
distinct-push f (y ∷ ys) x d u = grind (arith, nat_tests, distinct-push f ys x, list_any-append (λ z. eqb (f z) (f y)) ys (x ∷ []))

-- ---- without and only

pub unused-without : {X : Type 0} (f : X → ℕ) (m n : ℕ) (xs : List X) → is_used f m xs ≡ false → is_used f m (without f n xs) ≡ false
unused-without f m n [] u = refl
unused-without f m n (x ∷ xs) u = grind (arith, nat_tests, unused-without f m n xs)

pub unused_itself-without : {X : Type 0} (f : X → ℕ) (n : ℕ) (xs : List X) → is_used f n (without f n xs) ≡ false
unused_itself-without f n [] = refl
unused_itself-without f n (x ∷ xs) = grind (arith, nat_tests, unused_itself-without f n xs)

pub distinct-without : {X : Type 0} (f : X → ℕ) (n : ℕ) (xs : List X) → is_distinct f xs ≡ true → is_distinct f (without f n xs) ≡ true
distinct-without f n [] d = refl
distinct-without f n (x ∷ xs) d = grind (arith, nat_tests, distinct-without f n xs, unused-without f (f x) n xs)

pub without_unused : {X : Type 0} (f : X → ℕ) (n : ℕ) (xs : List X) → is_used f n xs ≡ false → without f n xs ≡ xs
without_unused f n [] u = refl
without_unused f n (x ∷ xs) u = grind (arith, nat_tests, without_unused f n xs)

pub only_unused : {X : Type 0} (f : X → ℕ) (n : ℕ) (xs : List X) → is_used f n xs ≡ false → only f n xs ≡ []
only_unused f n [] u = refl
only_unused f n (x ∷ xs) u = grind (arith, nat_tests, only_unused f n xs)

pub unused-only : {X : Type 0} (f : X → ℕ) (m n : ℕ) (xs : List X) → is_used f m xs ≡ false → is_used f m (only f n xs) ≡ false
unused-only f m n [] u = refl
unused-only f m n (x ∷ xs) u = grind (arith, nat_tests, unused-only f m n xs)

-- ---- the element at a place

pub used_at : {X : Type 0} (f : X → ℕ) (xs : List X) (k : ℕ) (d : X) → k < length xs → is_used f (f (get_or xs k d)) xs ≡ true
used_at f [] k d lt = absurd (omega arith)
used_at f (x ∷ xs) zero d lt = grind (arith, nat_tests)
used_at f (x ∷ xs) (suc k) d lt = grind (arith, nat_tests, used_at f xs k d)

later_moved : {X : Type 0} (f : X → ℕ) (r x : X) (xs : List X) (n k : ℕ) → eqb (f r) n ≡ false → remove xs k ≡ without f n xs → x ∷ [] ≡ only f n xs → (remove (r ∷ xs) (suc k) ≡ without f n (r ∷ xs)) × (x ∷ [] ≡ only f n (r ∷ xs))
later_moved f r x xs n k differ h i = (rw differ (ap (λ ys. r ∷ ys) h), rw differ i)

first_moved : {X : Type 0} (f : X → ℕ) (r : X) (xs : List X) (n : ℕ) → eqb (f r) n ≡ true → is_used f n xs ≡ false → (remove (r ∷ xs) 0 ≡ without f n (r ∷ xs)) × (r ∷ [] ≡ only f n (r ∷ xs))
first_moved f r xs n same u = (rw same (sym (without_unused f n xs u)), rw same (ap (λ ys. r ∷ ys) (sym (only_unused f n xs u))))

-- the others, and the element itself, by its number
pub moved : {X : Type 0} (f : X → ℕ) (xs : List X) (k : ℕ) (d : X) → is_distinct f xs ≡ true → k < length xs → (remove xs k ≡ without f (f (get_or xs k d)) xs) × (get_or xs k d ∷ [] ≡ only f (f (get_or xs k d)) xs)
moved f [] k d distinct lt = absurd (omega arith)
moved f (x ∷ xs) zero d distinct lt =
    let unused : is_used f (f x) xs ≡ false = grind (arith, nat_tests) in
    first_moved f x xs (f x) (grind (arith, nat_tests)) unused
moved f (x ∷ xs) (suc k) d distinct lt =
    let rest = moved f xs k d (grind (arith, nat_tests)) (omega arith) in
    let used = used_at f xs k d (omega arith) in
    let differ : eqb (f x) (f (get_or xs k d)) ≡ false = grind (arith, nat_tests, eqb_tells (f x) (f (get_or xs k d))) in
    later_moved f x (get_or xs k d) xs (f (get_or xs k d)) k differ rest.0 rest.1

-- ---- renewed

pub renewed_at : {X : Type 0} (f : X → ℕ) (xs : List X) (k : ℕ) (d : X) (n : ℕ) → is_distinct f xs ≡ true → k < length xs → f (get_or xs k d) ≡ n → remove xs k ++ get_or xs k d ∷ [] ≡ moved_to_end f n xs
renewed_at f xs k d n distinct lt e =
    let m = moved f xs k d distinct lt in
    rw (m.0, m.1, e) refl

pub renewed_unused : {X : Type 0} (f : X → ℕ) (xs : List X) (n : ℕ) → is_used f n xs ≡ false → xs ≡ moved_to_end f n xs
renewed_unused f xs n u = rw (without_unused f n xs u, only_unused f n xs u) (sym (append-nil xs))

distinct_by : {X : Type 0} (f : X → ℕ) (x : X) (xs : List X) (n : ℕ) (b : Bool) → eqb (f x) n ≡ b → is_distinct f (x ∷ xs) ≡ true → is_distinct f (moved_to_end f n xs) ≡ true → is_distinct f (moved_to_end f n (x ∷ xs)) ≡ true
distinct_by f x xs n true e d h =
    let same : f x ≡ n = grind (arith, nat_tests) in
    let unused : is_used f n xs ≡ false = grind (arith, nat_tests) in
    rw (e, only_unused f n xs unused) (distinct-push f (without f n xs) x (distinct-without f n xs (grind (arith, nat_tests))) (rw same (unused_itself-without f n xs)))
distinct_by f x xs n false e d h =
    let unused : is_used f (f x) xs ≡ false = grind (arith, nat_tests) in
    let nowhere : is_used f (f x) (moved_to_end f n xs) ≡ false = rw (list_any-append (λ y. eqb (f y) (f x)) (without f n xs) (only f n xs), unused-without f (f x) n xs unused) (unused-only f (f x) n xs unused) in
    rw (e, nowhere) h

pub distinct-moved_to_end : {X : Type 0} (f : X → ℕ) (n : ℕ) (xs : List X) → is_distinct f xs ≡ true → is_distinct f (moved_to_end f n xs) ≡ true
distinct-moved_to_end f n [] d = refl
distinct-moved_to_end f n (x ∷ xs) d = distinct_by f x xs n (eqb (f x) n) refl d (distinct-moved_to_end f n xs (grind (arith, nat_tests)))

-- ---- a list seen through a function that keeps the numbers

pub used-map : {X Y : Type 0} (g : X → Y) (f : Y → ℕ) (n : ℕ) (xs : List X) → is_used f n (map g xs) ≡ is_used (λ x. f (g x)) n xs
used-map g f n [] = refl
used-map g f n (x ∷ xs) = rw (used-map g f n xs) refl

pub distinct-map : {X Y : Type 0} (g : X → Y) (f : Y → ℕ) (xs : List X) → is_distinct f (map g xs) ≡ is_distinct (λ x. f (g x)) xs
distinct-map g f [] = refl
distinct-map g f (x ∷ xs) = rw (used-map g f (f (g x)) xs, distinct-map g f xs) refl

filter-map : {X Y : Type 0} (g : X → Y) (p : Y → Bool) (xs : List X) → filter p (map g xs) ≡ map g (filter (λ x. p (g x)) xs)
filter-map g p [] = refl
filter-map {X} {Y} g p (x ∷ xs) = by_test (p (g x)) (filter-map g p xs)
  where
    by_test : (b : Bool) → filter p (map g xs) ≡ map g (filter (λ y. p (g y)) xs) → cond b (g x ∷ filter p (map g xs)) (filter p (map g xs)) ≡ map g (cond b (x ∷ filter (λ y. p (g y)) xs) (filter (λ y. p (g y)) xs))
    by_test true ih = ap (λ ys. g x ∷ ys) ih
    by_test false ih = ih
