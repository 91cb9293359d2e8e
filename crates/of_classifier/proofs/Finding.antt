-- The first element that passes, by its place.
use Rattle.std.proofs.Common.{◌≡◌, ℕ, ◌<◌, zero, suc, Bool, true, false, cond, List, [], ◌∷◌, Option, Some, refl, sym, ap, subst, arith}
use Rattle.std.specs.{Prelude.find, Prelude.filter, Prelude.slice_get, Prelude.◌&&◌, List.list_all}

-- it stands there and passes, and none before it does
pub record FoundAt {X : Type 0} (p : X → Bool) (xs : List X) (place : ℕ) (x : X) : Type 0 where
  pub stands : slice_get xs place ≡ Some x
  pub passes : p x ≡ true
  pub first : (k : ℕ) (y : X) → k < place → slice_get xs k ≡ Some y → p y ≡ false

later_first : {X : Type 0} (p : X → Bool) (y : X) (ys : List X) (place : ℕ) → p y ≡ false → ((k : ℕ) (z : X) → k < place → slice_get ys k ≡ Some z → p z ≡ false)
    → (k : ℕ) (z : X) → k < suc place → slice_get (y ∷ ys) k ≡ Some z → p z ≡ false
later_first {X} p y ys place e f zero z lt g = let same : y ≡ z = cc in subst (λ (w : X). p w ≡ false) same e
later_first p y ys place e f (suc k) z lt g = f k z (omega arith) g

pub found_at : {X : Type 0} (p : X → Bool) (xs : List X) (x : X) → find p xs ≡ Some x → (place : ℕ) × FoundAt p xs place x
found_at p [] x h = absurd cc
found_at {X} p (y ∷ ys) x h = by_test (p y) refl (found_at p ys x)
  where
    by_test : (b : Bool) → p y ≡ b → (find p ys ≡ Some x → (place : ℕ) × FoundAt p ys place x) → (place : ℕ) × FoundAt p (y ∷ ys) place x
    by_test true e later =
        let same : y ≡ x = (let g = rw e at h in cc) in
        (0, record { stands = ap Some same; passes = subst (λ (w : X). p w ≡ true) same e; first = λ k z lt. absurd (omega arith) })
    by_test false e later =
        let rest = later (rw e at h) in
        (suc rest.0, record { stands = rest.1.stands; passes = rest.1.passes; first = later_first p y ys rest.0 e rest.1.first })

pub find_from : {X : Type 0} (p : X → Bool) (xs : List X) (place : ℕ) (x : X) → FoundAt p xs place x → find p xs ≡ Some x
find_from p [] place x h = absurd (let e = h.stands in cc)
find_from {X} p (y ∷ ys) zero x h =
    let same : y ≡ x = (let e = h.stands in cc) in
    let passes : p y ≡ true = subst (λ (w : X). p w ≡ true) (sym same) h.passes in
    rw passes (ap Some same)
find_from p (y ∷ ys) (suc place) x h =
    let fails : p y ≡ false = h.first 0 y (omega arith) refl in
    rw fails (find_from p ys place x (record { stands = h.stands; passes = h.passes; first = λ k z lt g. h.first (suc k) z (omega arith) g }))

-- ---- among those that a filter keeps

pub find-filter : {X : Type 0} (m q : X → Bool) (xs : List X) → find q (filter m xs) ≡ find (λ x. m x && q x) xs
find-filter m q [] = refl
find-filter {X} m q (x ∷ xs) = by_test (m x) (find-filter m q xs)
  where
    by_test : (b : Bool) → find q (filter m xs) ≡ find (λ y. m y && q y) xs → find q (cond b (x ∷ filter m xs) (filter m xs)) ≡ cond (b && q x) (Some x) (find (λ y. m y && q y) xs)
    by_test true ih = ap (λ (o : Option X). cond (q x) (Some x) o) ih
    by_test false ih = ih

pub kept_at : {X : Type 0} (m q : X → Bool) (xs : List X) → list_all q (filter m xs) ≡ true → (k : ℕ) (y : X) → slice_get xs k ≡ Some y → m y ≡ true → q y ≡ true
kept_at m q [] h k y g my = absurd cc
kept_at {X} m q (x ∷ xs) h zero y g my =
    let same : x ≡ y = cc in
    let mx : m x ≡ true = subst (λ (w : X). m w ≡ true) (sym same) my in
    subst (λ (w : X). q w ≡ true) same (first_passes (q x) (list_all q (filter m xs)) (rw mx at h))
  where
    first_passes : (a b : Bool) → (a && b) ≡ true → a ≡ true
    first_passes true b e = refl
    first_passes false b e = e
kept_at m q (x ∷ xs) h (suc k) y g my = kept_at m q xs (others (m x) (q x) h) k y g my
  where
    others : (b c : Bool) → list_all q (cond b (x ∷ filter m xs) (filter m xs)) ≡ true → list_all q (filter m xs) ≡ true
    others true c e = second_passes (q x) (list_all q (filter m xs)) e
      where
        second_passes : (a b : Bool) → (a && b) ≡ true → b ≡ true
        second_passes true b e = e
        second_passes false b e = absurd cc
    others false c e = e

pub kept_all : {X : Type 0} (m q : X → Bool) (xs : List X) → ((k : ℕ) (y : X) → slice_get xs k ≡ Some y → m y ≡ true → q y ≡ true) → list_all q (filter m xs) ≡ true
kept_all m q [] h = refl
kept_all m q (x ∷ xs) h = by_test (m x) refl (kept_all m q xs (λ k y g my. h (suc k) y g my))
  where
    by_test : (b : Bool) → m x ≡ b → list_all q (filter m xs) ≡ true → list_all q (cond b (x ∷ filter m xs) (filter m xs)) ≡ true
    by_test true e ih = let qx : q x ≡ true = h 0 x refl e in rw (qx, ih) refl
    by_test false e ih = ih

pub filter_empty : {X : Type 0} (m : X → Bool) (xs : List X) → filter m xs ≡ [] → (k : ℕ) (y : X) → slice_get xs k ≡ Some y → m y ≡ false
filter_empty m [] h k y g = absurd cc
filter_empty {X} m (x ∷ xs) h k y g = by_test (m x) refl h (filter_empty m xs) k g
  where
    by_test : (b : Bool) → m x ≡ b → cond b (x ∷ filter m xs) (filter m xs) ≡ [] → (filter m xs ≡ [] → (j : ℕ) (z : X) → slice_get xs j ≡ Some z → m z ≡ false) → (j : ℕ) → slice_get (x ∷ xs) j ≡ Some y → m y ≡ false
    by_test true e f later j gj = absurd cc
    by_test false e f later zero gj = let same : x ≡ y = cc in subst (λ (w : X). m w ≡ false) same e
    by_test false e f later (suc j) gj = later f j y gj

pub filter_none : {X : Type 0} (m : X → Bool) (xs : List X) → ((k : ℕ) (y : X) → slice_get xs k ≡ Some y → m y ≡ false) → filter m xs ≡ []
filter_none m [] h = refl
filter_none m (x ∷ xs) h = let fails : m x ≡ false = h 0 x refl in rw fails (filter_none m xs (λ k y g. h (suc k) y g))
