-- The rows of a cache: which are right, and which stay where entries change.
use Rattle.std.specs.Prelude.{◌≡◌, ℕ, Bool, false, true, not, ◌==◌, ◌&&◌, nat_lt, List, Option, Some, None, filter}
use Rattle.std.specs.List.{Contains}
use Rattle.of_layers.specs.declared.field.Field.{Field}
use Rattle.of_oxm.specs.declared.match_field.MatchField.{MatchField}
use Rattle.of_classifier.specs.{declared.Row.Row, Winner.winner_of, Scanning.pair_of}
use Rattle.of_cache.specs.Regions.{AnsweredRegion, Holds, IsRegion, meets}

-- an answer is the number and the priority of the entry that wins, or none; a row is a region with its answer

-- ---- rows that are right

-- the answer is right for every field map of the region, also for those that no frame gives
abbrev pub IsSoundRegion : List Row → AnsweredRegion → Type 0
IsSoundRegion content row = (map : Field → Option ℕ) → Holds row.0 map → pair_of (winner_of content map) ≡ row.1

pub record AreSoundRegions (content : List Row) (rows : List AnsweredRegion) : Type 0 where
  pub right : (row : AnsweredRegion) → Contains rows row → IsSoundRegion content row
  pub regions : (row : AnsweredRegion) → Contains rows row → IsRegion row.0

-- ---- rows that stay

-- the answer is the entry of that number
abbrev pub is_answer : ℕ → Option (ℕ × ℕ) → Bool
is_answer number None = false
is_answer number (Some a) = a.0 == number

-- an entry of that priority would win over the answer: over none, and over one of a lower priority
abbrev pub is_beaten : ℕ → Option (ℕ × ℕ) → Bool
is_beaten priority None = true
is_beaten priority (Some a) = nat_lt a.1 priority

-- where an entry is removed or renewed, the rows that do not answer it stay, in order
abbrev pub not_answering : ℕ → List AnsweredRegion → List AnsweredRegion
not_answering number rows = filter (λ row. not (is_answer number row.1)) rows

-- where an entry is added, the rows stay, in order, whose answer it would not beat, and those whose region its match does not meet
abbrev pub not_beaten : List MatchField → ℕ → List AnsweredRegion → List AnsweredRegion
not_beaten m priority rows = filter (λ row. not (is_beaten priority row.1 && meets m row.0)) rows
