-- The entry that wins where several match (OpenFlow 1.3.5, 5.3): the oldest of the matching ones of the highest priority.
use Rattle.std.specs.Prelude.{◌≡◌, ◌≤◌, ℕ, Bool, true, false, List, Option, Some, None, filter, slice_get}
use Rattle.of_layers.specs.declared.field.Field.{Field}
use Rattle.of_wire.specs.Highest.{oldest_highest}
use Rattle.of_oxm.specs.Relations.{matches_map}
use Rattle.of_classifier.specs.{declared.Row.Row, Rows.row_priority}

-- the entry matches the frame
abbrev pub is_matching : (Field → Option ℕ) → Row → Bool
is_matching key r = matches_map r.fields key

-- the entries that match, oldest first
abbrev pub matching : List Row → (Field → Option ℕ) → List Row
matching rows key = filter (is_matching key) rows

-- the winner: the oldest matching entry whose priority no matching entry exceeds, or none
abbrev pub winner_of : List Row → (Field → Option ℕ) → Option Row
winner_of rows key = oldest_highest row_priority (matching rows key)

-- its number
abbrev pub winner_number : Option Row → Option ℕ
winner_number None = None
winner_number (Some r) = Some r.number

-- The entry is at this place and matches, no matching entry has a higher priority, and none of its priority comes before it.
pub record Wins (rows : List Row) (key : Field → Option ℕ) (place : ℕ) (r : Row) : Type 0 where
  pub stands : slice_get rows place ≡ Some r
  pub matches : is_matching key r ≡ true
  pub highest : (k : ℕ) (s : Row) → slice_get rows k ≡ Some s → is_matching key s ≡ true → s.priority ≤ r.priority
  pub oldest : (k : ℕ) (s : Row) → slice_get rows k ≡ Some s → is_matching key s ≡ true → s.priority ≡ r.priority → place ≤ k

-- no entry matches
abbrev pub NoneMatches : List Row → (Field → Option ℕ) → Type 0
NoneMatches rows key = (k : ℕ) (s : Row) → slice_get rows k ≡ Some s → is_matching key s ≡ false
