-- The event file of a switch that serves, which is read whole.
use Rattle.std.specs.Prelude.{◌≡◌, ◌⊎◌, ℕ, ◌+◌, Bool, true, false, List, [], ◌∷◌, ◌++◌, Option, Some, None, Result, Ok, Err}
use Rattle.std.specs.{Option.option_map, Global.Vec}
use Rattle.of_switch.specs.{declared.event.Event.Event, declared.event.Event.TheVariants.Connect, declared.event.Event.TheVariants.Lost, declared.event.Event.TheVariants.Chunk}
use Rattle.of_text.specs.Lines.{lines_of}
use Rattle.of_replay.specs.declared.event_file.Ended.TheVariants.{Done, BadRow, Text, ReadFault, WriteFault, NoMemory}
use Rattle.of_replay.specs.{declared.event_file.Ended.Ended, FileRuns.Meaning, FileRuns.IsValue, FileRuns.IsBad, FileRuns.HasFault, Rows.Rows, Rows.row_of_line}

-- what happens at a row; those of a controller (`connect`, `lost`, `c`) are not allowed in the file
abbrev pub file_row : Option (Option Event) → Option (List Event)
file_row None = None
file_row (Some None) = Some []
file_row (Some (Some Connect)) = None
file_row (Some (Some Lost)) = None
file_row (Some (Some (Chunk bytes))) = None
file_row (Some (Some event)) = Some (event ∷ [])

-- a line, and then other lines
abbrev pub file_row_and : Option (List Event) → Rows → Rows
file_row_and None others = record { events = []; bad = Some 1 }
file_row_and (Some events) others = record { events = events ++ others.events; bad = option_map (λ n. n + 1) others.bad }

-- the events of lines up to the first bad one, and the number of that one, counted from 1
abbrev pub file_rows : List (List ℕ) → Rows
file_rows [] = record { events = []; bad = None }
file_rows (line ∷ lines) = file_row_and (file_row (row_of_line line)) (file_rows lines)

-- the file is read whole, and is its events
abbrev pub served_file : Meaning (Vec Event)
served_file false file outcome = ⊥
served_file true file (IsValue events) = ((file_rows (lines_of file)).bad ≡ None) × (events.items ≡ (file_rows (lines_of file)).events)
served_file true file (IsBad n) = (file_rows (lines_of file)).bad ≡ Some n
served_file true file (HasFault fault) = ⊥

-- a read failed, or a million reads found no end
abbrev pub RowsFault : Result (Vec Event) Ended → (reads ends ends' failures failures' : ℕ) → Type 0
RowsFault (Ok events) reads ends ends' failures failures' = failures' ≡ failures
RowsFault (Err Done) reads ends ends' failures failures' = ⊥
RowsFault (Err (BadRow n)) reads ends ends' failures failures' = failures' ≡ failures
RowsFault (Err (Text fault)) reads ends ends' failures failures' = ⊥
RowsFault (Err ReadFault) reads ends ends' failures failures' = (ends' ≡ ends) × ((failures' ≡ failures + 1) ⊎ ((failures' ≡ failures) × (reads ≡ 1000000)))
RowsFault (Err WriteFault) reads ends ends' failures failures' = ⊥
RowsFault (Err NoMemory) reads ends ends' failures failures' = failures' ≡ failures

-- a row that is allowed in the file is appended
abbrev pub Pushes : Bool → Option (List Event) → List Event → List Event → Type 0
Pushes true (Some events) old new = new ≡ old ++ events
Pushes true None old new = ⊥
Pushes false (Some events) old new = ⊥
Pushes false None old new = new ≡ old
