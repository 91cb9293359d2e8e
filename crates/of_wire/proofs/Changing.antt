-- Elements of a list, changed one after the other.
use Rattle.std.proofs.Common.{◌≡◌, ℕ, zero, suc, ◌+◌, ◌<◌, List, [], ◌∷◌, ◌++◌, length, get_or, set, take, drop, refl, ◌∙◌, ap, arith, add-one}
use Rattle.std.specs.Prelude.{map}

-- the first n were changed
abbrev pub changed_to : {X : Type 0} → (X → X) → ℕ → List X → List X
changed_to f i xs = map f (take i xs) ++ drop i xs

changed_at : {X : Type 0} (f : X → X) (i : ℕ) (xs : List X) (d : X) → i < length xs → get_or (changed_to f i xs) i d ≡ get_or xs i d
changed_at f i [] d lt = absurd (omega (arith, lt))
changed_at f zero (x ∷ xs) d lt = refl
changed_at f (suc i) (x ∷ xs) d lt = changed_at f i xs d (omega (arith, lt))

changed_set : {X : Type 0} (f : X → X) (i : ℕ) (xs : List X) (d : X) → i < length xs → set (changed_to f i xs) i (f (get_or xs i d)) ≡ changed_to f (suc i) xs
changed_set f i [] d lt = absurd (omega (arith, lt))
changed_set f zero (x ∷ xs) d lt = refl
changed_set {X} f (suc i) (x ∷ xs) d lt = ap (λ (ys : List X). f x ∷ ys) (changed_set f i xs d (omega (arith, lt)))

-- one more
pub changed_more : {X : Type 0} (f : X → X) (i : ℕ) (xs ys : List X) (x d : X) → i < length xs → ys ≡ changed_to f i xs → x ≡ f (get_or ys i d) → set ys i x ≡ changed_to f (i + 1) xs
changed_more {X} f i xs ys x d lt so is =
    let at : get_or ys i d ≡ get_or xs i d = ap (λ (zs : List X). get_or zs i d) so ∙ changed_at f i xs d lt in
    rw (add-one i, is, at, so) (changed_set f i xs d lt)
