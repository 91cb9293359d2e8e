-- COMMENTS BEHIND THE FLOWS of a text: what a dump counted of each.
use Rattle.std.specs.Prelude.{ℕ, ◌==◌, Bool, List, [], ◌∷◌, ◌++◌, codes, if◌then◌else◌}
use Rattle.std.specs.{List.flat_map, Str.bytes_eq}
use Rattle.of_lines.specs.Lines.{before, ended, lines_of}
use Rattle.of_import.specs.{Notes.counter_note, ParsedLines.FlowAt}

-- one for each flow of a table, in the order of the lines; it may be empty
abbrev pub note_in : ℕ → FlowAt → List (List ℕ)
note_in table f = if f.flow.head.table == table then counter_note f ∷ [] else []

abbrev pub notes_in : ℕ → List FlowAt → List (List ℕ)
notes_in table fs = flat_map (note_in table) fs

abbrev pub tables : List ℕ
tables = 0 ∷ 1 ∷ 2 ∷ 3 ∷ 4 ∷ 5 ∷ 6 ∷ 7 ∷ 8 ∷ 9 ∷ 10 ∷ 11 ∷ 12 ∷ 13 ∷ 14 ∷ 15 ∷ []

-- one for each flow, in the order of a flow text: table by table
abbrev pub counter_notes : List FlowAt → List (List ℕ)
counter_notes fs = flat_map (λ table. notes_in table fs) tables

-- the first of them, and those after it
abbrev pub next_note : List (List ℕ) → List ℕ
next_note [] = []
next_note (n ∷ ns) = n

abbrev pub later_notes : List (List ℕ) → List (List ℕ)
later_notes [] = []
later_notes (n ∷ ns) = ns

-- a line that begins a flow
abbrev pub begins_flow : List ℕ → Bool
begins_flow line = bytes_eq (before 32 line) (codes "flow")

-- a line, and if it begins a flow the next of the comments
abbrev pub noted_line : List (List ℕ) → List ℕ → List ℕ
noted_line notes line = if begins_flow line then ended line ++ next_note notes else ended line

-- the comments that are left then
abbrev pub notes_after : List (List ℕ) → List ℕ → List (List ℕ)
notes_after notes line = if begins_flow line then later_notes notes else notes

-- THE LINES, and behind each that begins a flow the next of the comments
unfoldable pub with_notes : List (List ℕ) → List (List ℕ) → List ℕ
with_notes notes [] = []
with_notes notes (line ∷ lines) = noted_line notes line ++ with_notes (notes_after notes line) lines

-- THE TEXT OF THESE FLOWS, with their counters
abbrev pub with_counters : List FlowAt → List ℕ → List ℕ
with_counters fs text = with_notes (counter_notes fs) (lines_of text)
