-- THE LINES OF FLOW ENTRIES in a flow text: those that begin `flow T `, by number from 1, for each table T.
use Rattle.std.specs.Prelude.{ℕ, zero, suc, ◌+◌, ◌&&◌, Bool, List, [], ◌∷◌, ◌++◌, codes, decimal, map, if◌then◌else◌}
use Rattle.std.specs.Str.{bytes_eq}
use Rattle.of_text.specs.Lines.{lines_of, before, behind}
use Rattle.of_values.specs.Origins.{EntryOrigin}

-- the first word of a line is `flow`, and the second one the number of the table
abbrev pub begins_flow_of_table : ℕ → List ℕ → Bool
begins_flow_of_table table line = bytes_eq (before 32 line) (codes "flow") && bytes_eq (before 32 (behind 32 line)) (decimal table)

abbrev pub number_if : Bool → ℕ → List ℕ
number_if b n = if b then n ∷ [] else []

-- of these lines, before which there are n
abbrev pub numbers_from : ℕ → ℕ → List (List ℕ) → List ℕ
numbers_from table n [] = []
numbers_from table n (line ∷ lines) = number_if (begins_flow_of_table table line) (n + 1) ++ numbers_from table (n + 1) lines

-- A TABLE'S LINES: the one at place K begins its entry K, since entries are in the order of the text
unfoldable pub flow_lines : ℕ → List ℕ → List ℕ
flow_lines table text = numbers_from table 0 (lines_of text)

-- where its entries come from: a flow text counts nothing
abbrev pub at_line : ℕ → EntryOrigin
at_line n = record { line = n; counters = [] }

abbrev pub text_origins : ℕ → List ℕ → List EntryOrigin
text_origins table text = map at_line (flow_lines table text)

-- those of the first k tables
unfoldable pub text_origins_below : ℕ → List ℕ → List (List EntryOrigin)
text_origins_below zero text = []
text_origins_below (suc k) text = text_origins_below k text ++ text_origins k text ∷ []
