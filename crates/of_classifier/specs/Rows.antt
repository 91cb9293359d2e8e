-- The entries of a classifier, oldest first, by their numbers and priorities.
use Rattle.std.specs.Prelude.{ℕ, Bool, ◌==◌, ◌&&◌, List, Option, find, option_map}
use Rattle.of_oxm.specs.{declared.match_field.MatchField.MatchField, SameMatch.is_same_match}
use Rattle.of_classifier.specs.declared.Row.{Row}

abbrev pub made_row : ℕ → ℕ → List MatchField → Row
made_row number priority fields = record { number = number; priority = priority; fields = fields }

abbrev pub row_number : Row → ℕ
row_number r = r.number

abbrev pub row_priority : Row → ℕ
row_priority r = r.priority

-- the entry is of that match and priority
abbrev pub is_same_row : List MatchField → ℕ → Row → Bool
is_same_row fields priority r = r.priority == priority && is_same_match r.fields fields

-- the oldest entry of that match and priority
abbrev pub same_of : List Row → List MatchField → ℕ → Option Row
same_of rows fields priority = find (is_same_row fields priority) rows

-- the priority of the entry of that number, if there is one
abbrev pub priority_of : ℕ → List Row → Option ℕ
priority_of number rows = option_map row_priority (find (λ r. r.number == number) rows)
