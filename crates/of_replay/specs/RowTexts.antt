-- WHAT IS PRINTED FOR A FILE, line by line: for each row a text, which the row, its line, the number of the line and the switch before it decide.
use Rattle.std.specs.Prelude.{ℕ, ◌+◌, List, [], ◌∷◌, ◌++◌, Option, Some, None}
use Rattle.of_switch.specs.{declared.event.Event.Event, State.State, Runs.Happened, Runs.Gives, Runs.happened}
use Rattle.of_replay.specs.{Rows.row_of_line, Output.report_text}

-- what happens at a row; an empty line and a comment report nothing
abbrev pub row_happened : State → Option Event → Happened
row_happened s None = record { report = Gives []; state = s }
row_happened s (Some event) = happened event s

-- what is printed for a row: by the number of its line, from 1, the switch before it, its line, and the row
abbrev pub RowText : Type 0
RowText = ℕ → State → List ℕ → Option Event → List ℕ

-- what `replay` prints: the text of the report
abbrev pub plain_row_text : RowText
plain_row_text n s line row = report_text (row_happened s row).report

-- for a line, and then for others on the switch after it; nothing for a bad line and for those after it
abbrev pub told_and : RowText → ℕ → State → List ℕ → Option (Option Event) → (State → List ℕ) → List ℕ
told_and tale n s line None rest = []
told_and tale n s line (Some row) rest = tale n s line row ++ rest (row_happened s row).state

-- for lines from that number on, from a state of the switch on
abbrev pub told_from : RowText → ℕ → List (List ℕ) → State → List ℕ
told_from tale n [] s = []
told_from tale n (line ∷ lines) s = told_and tale n s line (row_of_line line) (told_from tale (n + 1) lines)

-- for lines, where the run began on a switch in this state
abbrev pub told : State → RowText → List (List ℕ) → List ℕ
told begun tale lines = told_from tale 1 lines begun
