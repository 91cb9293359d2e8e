-- AN EVENT FILE EXPLAINED: its lines, each behind its number, and below each of them, after four spaces, what it did in words.
use Rattle.std.specs.Prelude.{◌≡◌, ◌≢◌, ℕ, List, [], ◌∷◌, ◌++◌, codes, decimal, Option, Some, None, Result, Ok, Err, if◌then◌else◌}
use Rattle.std.specs.List.{flat_map}
use Rattle.smallvec.specs.SmallVec.{SmallVec}
use Rattle.of_headers.specs.{declared.headers.FrameFault.FrameFault, Faults.frame_fault}
use Rattle.of_ports.specs.{declared.port.Port.Port, Ports.is_live, Ports.may_receive, Ports.port_at}
use Rattle.of_machine.specs.{declared.data.Step.Step, declared.data.Step.TheVariants.Miss, declared.data.Step.TheVariants.Entry, declared.data.Step.TheVariants.TtlExpired}
use Rattle.of_datapath.specs.{declared.effect.Effect.Effect, declared.effect.Effect.TheVariants.Answer, declared.effect.Effect.TheVariants.Sent, declared.effect.Effect.TheVariants.Closed}
use Rattle.of_datapath.specs.{DryRun.steps_in, Datapath.Forwarding}
use Rattle.of_switch.specs.{declared.switch_error.SwitchError.SwitchError, State.State, Steps.frame_in, Runs.Report, Runs.Gives, Runs.IsRefused, declared.event.Event.Event}
use Rattle.of_switch.specs.declared.event.Event.TheVariants.{Chunk, Frame}
use Rattle.of_switch.specs.declared.switch_error.SwitchError.TheVariants as refusals
use Rattle.of_replay.specs.RowTexts.{RowText, row_happened}
use Rattle.of_text.specs.Lines.{ended, note}
use Rattle.of_explain.specs.{Notes.number_note, Notes.port_and_size, Notes.with_number, Messages.message_words, Replies.answer_lines, Requests.chunk_notes}

-- a line as in the file, behind its number; an empty one is left out
abbrev pub echoed : ℕ → List ℕ → List ℕ
echoed n [] = []
echoed n (b ∷ bs) = decimal n ++ codes ": " ++ ended (b ∷ bs)

-- ---- what the switch gives: a note for each effect, and the lines below an answer

abbrev pub explained_effect_words : Effect → List ℕ
explained_effect_words (Answer bytes) = codes "to the controller: " ++ message_words bytes
explained_effect_words (Sent port frame) = port_and_size (codes "sent out of port") port frame
explained_effect_words Closed = codes "the switch ends the connection"

-- the lines below it
abbrev pub effect_lines : Effect → List ℕ
effect_lines (Answer bytes) = answer_lines bytes
effect_lines other = []

abbrev pub effect_note : Effect → List ℕ
effect_note e = note (explained_effect_words e) ++ effect_lines e

abbrev pub effect_notes : List Effect → List ℕ
effect_notes effects = flat_map effect_note effects

-- ---- why an event is refused

abbrev pub switch_error_words : SwitchError → List ℕ
switch_error_words refusals.NoMemory = codes "refused: no memory"
switch_error_words refusals.NotConnected = codes "refused: there is no connection"
switch_error_words refusals.Connected = codes "refused: there is a connection already"
switch_error_words refusals.PortExists = codes "refused: there is a port of that number already"
switch_error_words refusals.NoSuchPort = codes "refused: there is no port of that number"
switch_error_words refusals.TooManyPorts = codes "refused: there are 64 ports already"
switch_error_words refusals.BadPortNumber = codes "refused: a port's number is 1 to 4294967040"

-- ---- the way of a frame, on the switch before it

-- where it is looked up, and where its way ends
abbrev pub step_notes : Step → List ℕ
step_notes (Miss table) = number_note (codes "table") table (codes ": no entry matches, and the packet is dropped")
step_notes (Entry table place) = number_note (codes "table") table (with_number (codes ": entry") place)
step_notes TtlExpired = note (codes "its TTL has expired, and its processing ends")
step_notes other = []

abbrev pub length_notes : Option FrameFault → List ℕ
length_notes None = []
length_notes (Some fault) = note (codes "dropped: a frame has 14 to 9216 bytes")

abbrev pub not_received : Port → List ℕ
not_received p = if is_live p then codes " may not receive" else codes " is down"

-- at a port that exists
abbrev pub port_notes : ℕ → List ℕ → Port → List ℕ
port_notes number bytes p =
    if may_receive p
    then note (port_and_size (codes "in by port") number bytes) ++ length_notes (frame_fault bytes)
    else number_note (codes "dropped: port") number (not_received p)

-- at which port it is received, or why it is not
abbrev pub arrival_notes : ℕ → List ℕ → Option Port → List ℕ
arrival_notes number bytes None = number_note (codes "dropped: there is no port") number []
arrival_notes number bytes (Some p) = port_notes number bytes p

abbrev pub way_notes : ℕ → List ℕ → Forwarding → List ℕ
way_notes number bytes f = arrival_notes number bytes (port_at f.ports number) ++ flat_map step_notes (steps_in number bytes f)

abbrev pub nothing_leaves : List Effect → List ℕ
nothing_leaves [] = note (codes "nothing leaves")
nothing_leaves (e ∷ es) = []

-- WHAT A FRAME WOULD DO that is received next: its way, a note for each effect, and how that ends
abbrev pub frame_notes : ℕ → List ℕ → State → List ℕ
frame_notes number bytes s = way_notes number bytes s.core.forwarding
    ++ (effect_notes (frame_in number bytes s).effects ++ nothing_leaves (frame_in number bytes s).effects)

-- ---- a row

-- what it does on the switch before it
abbrev pub row_notes : State → Option Event → List ℕ
row_notes s (Some (Chunk bytes)) = chunk_notes s.connection.pending bytes
row_notes s (Some (Frame port bytes)) = way_notes port bytes s.core.forwarding
row_notes s other = []

-- the note of a frame without effects
abbrev pub end_notes : Option Event → List Effect → List ℕ
end_notes (Some (Frame port bytes)) effects = nothing_leaves effects
end_notes other effects = []

-- THE NOTES BELOW A ROW: of an event that happens, what it does, a note for each of its effects, and how that ends; of one that is refused, why
abbrev pub report_notes : List ℕ → Option Event → Report → List ℕ
report_notes before row (Gives effects) = before ++ (effect_notes effects ++ end_notes row effects)
report_notes before row (IsRefused refusal) = note (switch_error_words refusal)

-- of the very report that `replay` prints
abbrev pub notes_below : State → Option Event → List ℕ
notes_below s row = report_notes (row_notes s row) row (row_happened s row).report

-- THE TALE: the line behind its number, and the notes below it
abbrev pub explained : RowText
explained n s line row = echoed n line ++ notes_below s row

-- ---- for contracts inside this crate

-- the notes of a call's report were appended, or memory ran out
abbrev pub TellsReport : Result (SmallVec Effect) SwitchError → Result (Unit {0}) SwitchError → List ℕ → Option Event → List ℕ → List ℕ → Type 0
TellsReport (Ok es) (Ok u) before row out out' = out' ≡ out ++ report_notes before row (Gives es.items)
TellsReport (Err e) (Ok u) before row out out' = (e ≢ refusals.NoMemory) × (out' ≡ out ++ report_notes before row (IsRefused e))
TellsReport called (Err e) before row out out' = e ≡ refusals.NoMemory
