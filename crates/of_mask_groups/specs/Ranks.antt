-- The priorities of the entries of a group, each with its number.
use Rattle.std.specs.Prelude.{◌≡◌, ◌⊎◌, ℕ, ◌≤◌, Bool, true, []}
use Rattle.std.specs.BTreeSet.{BTreeSet, contains}
use Rattle.of_mask_groups.specs.declared.rank.Rank.{Rank}
use Rattle.of_mask_groups.specs.contracts.rank.RankOrd.TheImpl as the_rank

abbrev pub rank_at : ℕ → ℕ → Rank
rank_at p n = record { priority = p; number = n }

-- the set has the number under that priority
abbrev pub has_rank : BTreeSet Rank → ℕ → ℕ → Bool
has_rank ranks p n = contains the_rank.cmp-value.it ranks (rank_at p n)

-- no number of the set has a higher priority, and one has it, unless there is none
pub record IsHighest (ranks : BTreeSet Rank) (best : ℕ) : Type 0 where
  pub above : (p n : ℕ) → has_rank ranks p n ≡ true → p ≤ best
  pub top : (ranks.keys ≡ []) ⊎ ((n : ℕ) × (has_rank ranks best n ≡ true))
