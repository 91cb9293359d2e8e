-- Rows of an event file that a switch refuses, and when they are due.
use Rattle.std.specs.Prelude.{ℕ, ◌+◌, nat_le, max, List, [], ◌∷◌, ◌++◌, Option, Some, None, if◌then◌else◌}
use Rattle.of_text.specs.Lines.{is_passed}
use Rattle.of_switch.specs.{declared.switch_error.SwitchError.SwitchError, declared.event.Event.Event, declared.event.Event.TheVariants.Moment, declared.event.Event.TheVariants.Ports, State.State}
use Rattle.of_switch.specs.Runs.{Report, Gives, IsRefused, happened}
use Rattle.of_sockets.specs.declared.refusals.RefusedRow.{RefusedRow}

-- THE NUMBERS OF ROWS: those of the lines that are neither empty nor comments, from 1; before them stand so many lines
abbrev pub row_numbers : ℕ → List (List ℕ) → List ℕ
row_numbers before [] = []
row_numbers before (line ∷ lines) = if is_passed line then row_numbers (before + 1) lines else (before + 1) ∷ row_numbers (before + 1) lines

-- why an event is refused, if it is
abbrev pub refusal_in : Report → Option SwitchError
refusal_in (Gives effects) = None
refusal_in (IsRefused why) = Some why

abbrev pub refused_row : Option SwitchError → (due line : ℕ) → List RefusedRow
refused_row None due line = []
refused_row (Some why) due line = record { due = due; line = line; why = why } ∷ []

-- only rows of ports can be refused
abbrev pub refused_by : Event → (due line : ℕ) → State → List RefusedRow
refused_by (Ports change) due line s = refused_row (refusal_in (happened (Ports change) s).report) due line
refused_by other due line s = []

-- which ports there are is for these rows alone to say, so nothing else happens to the switch
abbrev pub ported : Event → State → State
ported (Ports change) s = (happened (Ports change) s).state
ported other s = s

-- a row is due when the clock has reached each moment among the rows before it
abbrev pub later : Event → ℕ → ℕ
later (Moment nanos) due = max due nanos
later other due = due

-- THE ROWS THAT ARE REFUSED among rows with these numbers, where that moment is the latest of those before them
abbrev pub refused_rows_from : (due : ℕ) → State → List Event → List ℕ → List RefusedRow
refused_rows_from due s [] lines = []
refused_rows_from due s (event ∷ events) [] = []
refused_rows_from due s (event ∷ events) (line ∷ lines) = refused_by event due line s ++ refused_rows_from (later event due) (ported event s) events lines

-- WHAT IS SAID, one row after the other: the first is said when the clock has reached it
abbrev pub next_due : ℕ → List RefusedRow → Option RefusedRow
next_due now [] = None
next_due now (row ∷ rows) = if nat_le row.due now then Some row else None

abbrev pub after_due : ℕ → List RefusedRow → List RefusedRow
after_due now [] = []
after_due now (row ∷ rows) = if nat_le row.due now then rows else row ∷ rows
