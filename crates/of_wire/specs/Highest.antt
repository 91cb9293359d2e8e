-- The oldest of the highest: of a list, oldest first, the first element whose rank no other exceeds.
use Rattle.std.specs.Prelude.{ℕ, Bool, List, Option, find, nat_le}
use Rattle.std.specs.List.{list_all}

-- no element of the list ranks above this one
abbrev pub is_highest : {X : Type 0} → (X → ℕ) → List X → X → Bool
is_highest rank xs x = list_all (λ y. nat_le (rank y) (rank x)) xs

abbrev pub oldest_highest : {X : Type 0} → (X → ℕ) → List X → Option X
oldest_highest rank xs = find (is_highest rank xs) xs
