-- THE SWITCH AFTER THE ROWS OF AN EVENT FILE that was read whole.
use Rattle.std.specs.Prelude.{◌≡◌, ℕ, ◌==◌, Bool, true, false, List, take, Option, Some, None}
use Rattle.of_text.specs.Lines.{lines_of}
use Rattle.of_switch.specs.{declared.event.Event.Event, State.State}
use Rattle.of_replay.specs.FileRuns.{HasFault, IsBad, IsValue, Meaning, state_after_rows}
use Rattle.of_replay.specs.{RowTexts.row_happened, Rows.rows_of_lines}

-- all lines of a file, or the first ones
abbrev pub first_lines : Option ℕ → List (List ℕ) → List (List ℕ)
first_lines None lines = lines
first_lines (Some n) lines = take n lines

-- A NEW SWITCH with datapath_id 1, on which the events of these lines happened; or the first of them that is no row
abbrev pub played_file : Option ℕ → Meaning State
played_file most false file outcome = ⊥
played_file most true file (IsValue s) = ((rows_of_lines (first_lines most (lines_of file))).bad ≡ None) × (s ≡ state_after_rows (rows_of_lines (first_lines most (lines_of file))))
played_file most true file (IsBad n) = (rows_of_lines (first_lines most (lines_of file))).bad ≡ Some n
played_file most true file (HasFault fault) = ⊥

-- ---- for contracts inside this crate

-- a row happened; false for a line that is none
abbrev pub PlaysLine : Bool → Option (Option Event) → State → State → Type 0
PlaysLine true (Some row) old new = new ≡ (row_happened old row).state
PlaysLine true None old new = ⊥
PlaysLine false (Some row) old new = ⊥
PlaysLine false None old new = new ≡ old

-- these were all lines that are asked for
abbrev pub were_all : Option ℕ → ℕ → Bool
were_all None number = false
were_all (Some n) number = n == number
