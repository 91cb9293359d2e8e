-- THE NEXT PAIRS: one of the two runs of a pair takes a step, or both do, whether or not a frame takes it (OpenFlow 1.3.5, 5.1).
use Rattle.std.specs.Prelude.{◌≡◌, ◌⊎◌, ◌≤◌, ◌+◌, ◌++◌, ℕ, List, [], ◌∷◌, Some, length, slice_get}
use Rattle.std.specs.List.{Contains}
use Rattle.of_table.specs.Table.{FlowEntry}
use Rattle.of_machine.specs.TheWorld.{TheWorld}
use Rattle.of_symbolic_run.specs.{declared.advance.Advance.TheVariants.Lookup, Cases.IsTableOf, NextStates.IsNextState, States.IsStateCopy, States.answer_to_tasks}
use Rattle.of_diff.specs.declared.pair.Pair.{Pair}

-- the run that takes no step keeps its state
pub data IsNextPair (w v : TheWorld) (old new : Pair) : Type 0 where
  first : IsNextState w old.first new.first → IsStateCopy old.second new.second → IsNextPair w v old new
  second : IsStateCopy old.first new.first → IsNextState v old.second new.second → IsNextPair w v old new
  both : IsNextState w old.first new.first → IsNextState v old.second new.second → IsNextPair w v old new

-- no two took the same steps
abbrev pub ArePairsApart : List Pair → Type 0
ArePairsApart pairs =
    (i j : ℕ) (p q : Pair) → slice_get pairs i ≡ Some p → slice_get pairs j ≡ Some q → p.first.steps.items ≡ q.first.steps.items → p.second.steps.items ≡ q.second.steps.items → i ≡ j

-- all pairs of these lists
abbrev pub pairs_of_parts : List (List Pair) → List Pair
pairs_of_parts [] = []
pairs_of_parts (part ∷ parts) = part ++ pairs_of_parts parts

-- both runs come to a lookup in the same table, of which both switches have at least so many entries together
pub record HaveEntriesFor (w v : TheWorld) (old : Pair) (n : ℕ) : Type 0 where
  pub table : ℕ
  pub first : answer_to_tasks old.first.tasks.items ≡ Lookup table
  pub second : answer_to_tasks old.second.tasks.items ≡ Lookup table
  pub entries_first : List FlowEntry
  pub entries_second : List FlowEntry
  pub of_first : IsTableOf w table entries_first
  pub of_second : IsTableOf v table entries_second
  pub enough : n ≤ length entries_first + length entries_second

-- each is a next one, and no two took the same steps; or so it is for the frames that match an entry of one of the tables, for each such entry at most once
pub record AreNextPairs (w v : TheWorld) (old : Pair) (pairs : List Pair) : Type 0 where
  pub each : (p : Pair) → Contains pairs p → IsNextPair w v old p
  pub parts : List (List Pair)
  pub all : pairs ≡ pairs_of_parts parts
  pub apart : (part : List Pair) → Contains parts part → ArePairsApart part
  pub few : (length parts ≤ 1) ⊎ HaveEntriesFor w v old (length parts)
