-- The rows of event files: words separated by one space, as
--   connect
--   lost
--   c HEX
--   f PORT HEX
--   t NANOS
--   port add N HW NAME up|down
--   port remove N
--   port link N up|down
use Rattle.std.specs.Prelude.{ℕ, ◌+◌, not, List, [], ◌∷◌, ◌++◌, codes, Option, Some, None, if◌then◌else◌}
use Rattle.std.specs.{Option.option_map, Str.bytes_eq}
use Rattle.of_switch.specs.declared.event.Event.TheVariants.{Connect, Lost, Chunk, Frame, Moment, Ports}
use Rattle.of_switch.specs.{declared.event.Event.Event, declared.port_change.PortChange.PortChange}
use Rattle.of_switch.specs.declared.port_change.PortChange.TheVariants.{Add, Remove, Link}
use Rattle.of_replay.specs.Lexing.{is_line, first_word, after_first_word, word_number, moment_of, hex_bytes, hw_of, name_in_word, state_of}
use Rattle.of_replay.specs.declared.rows.Row.{Row}
use Rattle.of_replay.specs.declared.rows.Row.TheVariants as row
use Rattle.of_text.specs.Reading.{◌>>=◌}
use Rattle.of_text.specs.Lines.{is_passed}

abbrev pub chunk_row : List ℕ → Option Event
chunk_row word = do
  bytes ← hex_bytes word
  Some (Chunk bytes)

abbrev pub frame_row : List ℕ → Option Event
frame_row words = do
  port ← word_number (first_word words)
  word ← after_first_word words
  bytes ← hex_bytes word
  Some (Frame port bytes)

-- after `port add`
abbrev pub added_port : List ℕ → Option PortChange
added_port words = do
  number ← word_number (first_word words)
  more ← after_first_word words
  hw ← hw_of (first_word more)
  last ← after_first_word more
  name ← name_in_word (first_word last)
  word ← after_first_word last
  up ← state_of word
  Some (Add number hw name up)

-- after `port remove`
abbrev pub removed_port : List ℕ → Option PortChange
removed_port word = do
  number ← word_number word
  Some (Remove number)

-- after `port link`
abbrev pub linked_port : List ℕ → Option PortChange
linked_port words = do
  number ← word_number (first_word words)
  word ← after_first_word words
  up ← state_of word
  Some (Link number up)

-- a change of that name, and its other words
abbrev pub change_of : List ℕ → List ℕ → Option PortChange
change_of name words =
    if bytes_eq name (codes "add") then added_port words
    else (if bytes_eq name (codes "remove") then removed_port words
    else (if bytes_eq name (codes "link") then linked_port words
    else None))

-- after `port`
abbrev pub port_of : List ℕ → Option PortChange
port_of words = do
  more ← after_first_word words
  change_of (first_word words) more

-- a row of that name, and its other words
abbrev pub named_row : List ℕ → List ℕ → Option Event
named_row name words =
    if bytes_eq name (codes "c") then chunk_row words
    else (if bytes_eq name (codes "f") then frame_row words
    else (if bytes_eq name (codes "t") then option_map Moment (moment_of words)
    else (if bytes_eq name (codes "port") then option_map Ports (port_of words)
    else None)))

abbrev pub event_row_in : List ℕ → Option (List ℕ) → Option Event
event_row_in name None =
    if bytes_eq name (codes "connect") then Some Connect
    else (if bytes_eq name (codes "lost") then Some Lost
    else None)
event_row_in name (Some words) = named_row name words

-- THE ROW OF A LINE: an event, or none for an empty line and a comment; None for a bad row
abbrev pub row_of_line : List ℕ → Option (Option Event)
row_of_line line =
    if not (is_line line) then None
    else (if is_passed line then Some None
    else option_map Some (event_row_in (first_word line) (after_first_word line)))

-- THE EVENTS OF LINES

abbrev pub events_in : Option Event → List Event
events_in None = []
events_in (Some event) = event ∷ []

-- the events of lines up to the first bad one, and the number of that one, counted from 1
pub record Rows : Type 0 where
  pub events : List Event
  pub bad : Option ℕ

-- a line, and then other lines
abbrev pub row_and : Option (Option Event) → Rows → Rows
row_and None others = record { events = []; bad = Some 1 }
row_and (Some row) others = record { events = events_in row ++ others.events; bad = option_map (λ n. n + 1) others.bad }

abbrev pub rows_of_lines : List (List ℕ) → Rows
rows_of_lines [] = record { events = []; bad = None }
rows_of_lines (line ∷ lines) = row_and (row_of_line line) (rows_of_lines lines)

-- IN CODE

-- what the code keeps of a row, with its buffer
abbrev pub with_bytes : List ℕ → Row → Option Event
with_bytes bytes row.Passed = None
with_bytes bytes row.Connect = Some Connect
with_bytes bytes row.Lost = Some Lost
with_bytes bytes row.Chunk = Some (Chunk bytes)
with_bytes bytes (row.Frame port) = Some (Frame port bytes)
with_bytes bytes (row.Moment nanos) = Some (Moment nanos)
with_bytes bytes (row.Ports change) = Some (Ports change)
