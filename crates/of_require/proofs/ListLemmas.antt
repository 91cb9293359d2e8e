-- One more element of what is walked over: an element of the part that was walked, or the last one.
use Rattle.std.proofs.Common.{◌≡◌, ◌<◌, ◌≤◌, ◌+◌, ℕ, zero, suc, List, [], ◌∷◌, ◌++◌, length, get_or, take, refl, sym, subst, ap, ◌∙◌, arith, inl, inr}
use Rattle.std.{specs.List.Contains, proofs.Math.Seq.take-suc}
use Rattle.std.proofs.lemmas.List.Elements.{Contains-append_left, Contains-append_right, Contains-push_cases}

pub at_end : {A : Type 0} (xs : List A) (x : A) → Contains (xs ++ x ∷ []) x
at_end xs x = Contains-append_right xs (x ∷ []) x (0, omega arith, refl)

pub before_end : {A : Type 0} (xs : List A) (x y : A) → Contains xs y → Contains (xs ++ x ∷ []) y
before_end xs x y h = Contains-append_left xs (x ∷ []) y h

pub taken_one : {A : Type 0} (xs : List A) (i : ℕ) (d : A) → i < length xs → take (i + 1) xs ≡ take i xs ++ get_or xs i d ∷ []
taken_one xs i d lt = let more : i + 1 ≡ suc i = omega arith in ap (λ (n : ℕ). take n xs) more ∙ take-suc xs i d lt

pub all_taken : {A : Type 0} (xs : List A) (i : ℕ) → length xs ≤ i → take i xs ≡ xs
all_taken [] zero le = refl
all_taken [] (suc i) le = refl
all_taken (x ∷ xs) zero le = absurd (omega (arith, le))
all_taken (x ∷ xs) (suc i) le = ap (λ l. x ∷ l) (all_taken xs i (omega (arith, le)))

-- what is so of each element, with one more
pub each_more : {A : Type 0} (P : A → Type 0) (xs : List A) (x : A) → ((y : A) → Contains xs y → P y) → P x → (y : A) → Contains (xs ++ x ∷ []) y → P y
each_more P xs x old own y there = elim (Contains-push_cases xs x y there) as (λ z. P y) [
  | inl before ↦ old y before
  | inr same ↦ subst P same own
]

-- what is so of some element, with one more
pub some_more : {A : Type 0} (P : A → Type 0) (xs : List A) (x : A) → (y : A) × Contains xs y × P y → (y : A) × Contains (xs ++ x ∷ []) y × P y
some_more P xs x (y, there, h) = (y, before_end xs x y there, h)

pub taken_item : {A : Type 0} (xs : List A) (i : ℕ) (x : A) → i < length xs → x ≡ get_or xs i x → take (i + 1) xs ≡ take i xs ++ x ∷ []
taken_item xs i x lt is = taken_one xs i x lt ∙ ap (λ y. take i xs ++ y ∷ []) (sym is)

longer : {A : Type 0} (y x : A) (before : List A) → 2 ≤ length (y ∷ before ++ x ∷ [])
longer y x [] = omega arith
longer y x (z ∷ before) = (let h = longer z x before in omega (arith, h))

pub only_one : {A : Type 0} (all before : List A) (x : A) → all ≡ before ++ x ∷ [] → length all ≡ 1 → all ≡ x ∷ []
only_one all [] x is one = is
only_one all (y ∷ before) x is one = (let more = longer y x before in let same = ap length is in absurd (omega (arith, more, same, one)))
