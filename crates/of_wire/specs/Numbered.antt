-- Lists whose elements have numbers.
use Rattle.std.specs.Prelude.{ℕ, ◌==◌, ◌&&◌, ◌++◌, Bool, true, not, List, [], ◌∷◌, filter}
use Rattle.std.specs.List.{list_any}

-- some element has the number
abbrev pub is_used : {X : Type 0} → (X → ℕ) → ℕ → List X → Bool
is_used number_of number xs = list_any (λ x. number_of x == number) xs

-- no two elements have the same number
abbrev pub is_distinct : {X : Type 0} → (X → ℕ) → List X → Bool
is_distinct number_of [] = true
is_distinct number_of (x ∷ xs) = not (is_used number_of (number_of x) xs) && is_distinct number_of xs

-- the elements without that number, and with it
abbrev pub without : {X : Type 0} → (X → ℕ) → ℕ → List X → List X
without number_of number xs = filter (λ x. not (number_of x == number)) xs

abbrev pub only : {X : Type 0} → (X → ℕ) → ℕ → List X → List X
only number_of number xs = filter (λ x. number_of x == number) xs

-- the element of that number moves to the end
abbrev pub moved_to_end : {X : Type 0} → (X → ℕ) → ℕ → List X → List X
moved_to_end number_of number xs = without number_of number xs ++ only number_of number xs
