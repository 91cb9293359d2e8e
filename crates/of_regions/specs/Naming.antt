-- Names in ascending order.
use Rattle.std.specs.Prelude.{◌≡◌, ◌<◌, ◌==◌, ◌⊎◌, ℕ, nat_le, List, [], ◌∷◌, if◌then◌else◌}
use Rattle.std.specs.List.{AllByRecursion, Contains}

-- in ascending order, each once
abbrev pub AreAscending : List ℕ → Type 0
AreAscending [] = Unit {0}
AreAscending (j ∷ names) = AllByRecursion (λ i. j < i) names × AreAscending names

-- one more name, in ascending order, once
abbrev pub with_place : ℕ → List ℕ → List ℕ
with_place j [] = j ∷ []
with_place j (i ∷ names) = if nat_le j i then (if i == j then i ∷ names else j ∷ i ∷ names) else i ∷ with_place j names

-- a name beside others
pub record IsNamed (j : ℕ) (old new : List ℕ) : Type 0 where
  pub there : Contains new j
  pub kept : (i : ℕ) → Contains old i → Contains new i
  pub only : (i : ℕ) → Contains new i → Contains old i ⊎ (j ≡ i)
