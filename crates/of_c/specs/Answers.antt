-- WHAT A CALLER IN C GETS: a text in a buffer of its own, the status that the command has, and the line that is at fault.
use Rattle.std.specs.Prelude.{◌≡◌, ◌⊎◌, ◌++◌, ℕ, Bool, true, List, [], ◌∷◌, Option, Some, None, length, take, drop}
use Rattle.of_text.specs.declared.assembling.TextFault.TheVariants.{Syntax, Refused}
use Rattle.of_import.specs.{declared.import.ImportError.ImportError, declared.kept.LineRefusal.LineRefusal, declared.parsed_lines.LineFaults.LineFaults}
use Rattle.of_import.specs.declared.import.ImportError.TheVariants as import
use Rattle.of_ports.specs.Ports.{has_port}
use Rattle.of_switch.specs.State.{State}
use Rattle.of_replay.specs.{declared.event_file.Ended.Ended, declared.event_file.Ended.TheVariants.BadRow, declared.event_file.Ended.TheVariants.Text, Ended.status_of}
use Rattle.of_files.specs.Switches.{AreContents, AreFlowsOf, ArePortsOfBoth, FileContents, HasNoContents, DescribesSwitch, switch_said, whole_mode}
use Rattle.of_files.specs.{declared.tables.FileTables.FileTables, declared.switches.NoContents.NoContents, declared.switches.PortList.PortList, Contents.content_of}
use Rattle.of_files.specs.declared.switches.NoContents.TheVariants as no
use Rattle.of_c.specs.declared.answer.Answer.{Answer}

-- as much of a text as there is room for goes to the front of a buffer
abbrev pub with_front : List ℕ → List ℕ → List ℕ
with_front text buffer = take (length buffer) text ++ drop (length text) buffer

-- the call gives a text of this kind, with its status and its line
pub record Gives (Is : ℕ → ℕ → List ℕ → Type 0) (a : Answer) (old new : List ℕ) : Type 0 where
  pub text : List ℕ
  pub is : Is a.status a.line text
  pub length_is : a.length ≡ length text
  pub buffer_is : new ≡ with_front text old

-- ---- lines at fault; 0: none

abbrev pub line_at_fault : Ended → ℕ
line_at_fault (BadRow n) = n
line_at_fault (Text (Syntax n)) = n
line_at_fault (Text (Refused n code)) = n
line_at_fault other = 0

abbrev pub first_bad_line : List LineFaults → List LineRefusal → ℕ
first_bad_line (f ∷ faults) refused = f.line
first_bad_line [] (r ∷ refused) = r.line
first_bad_line [] [] = 0

abbrev pub line_of_import : ImportError → ℕ
line_of_import (import.Faults faults refused) = first_bad_line faults.items refused.items
line_of_import (import.Refused line code) = line
line_of_import other = 0

abbrev pub status_of_import : ImportError → ℕ
status_of_import import.NoMemory = 3
status_of_import other = 2

abbrev pub line_of_none : NoContents → ℕ
line_of_none (no.Ended ended) = line_at_fault ended
line_of_none (no.NotImported error) = line_of_import error

abbrev pub status_of_none : NoContents → ℕ
status_of_none (no.Ended ended) = status_of ended
status_of_none (no.NotImported error) = status_of_import error

-- ---- the switch of a file, which is what its content says

pub record IsSwitchOf (file : List ℕ) (s : State) (missing : List ℕ) : Type 0 where
  pub contents : FileContents
  pub read : AreContents whole_mode None (content_of file) file contents
  pub described : DescribesSwitch None contents s missing

-- it has a port, if one is asked for
abbrev pub has_port_asked : Option ℕ → State → Bool
has_port_asked None s = true
has_port_asked (Some port) s = has_port port s.core.forwarding.ports

-- a file that describes none gives no text
pub record IsUnread (file : List ℕ) (status line : ℕ) (text : List ℕ) : Type 0 where
  pub why : NoContents
  pub none : HasNoContents whole_mode None (content_of file) file why
  pub status_is : status ≡ status_of_none why
  pub line_is : line ≡ line_of_none why
  pub text_is : text ≡ []

-- one of two files describes none
abbrev pub LacksSwitch : (first second : List ℕ) → NoContents → Type 0
LacksSwitch first second why = HasNoContents whole_mode None (content_of first) first why ⊎ HasNoContents whole_mode None (content_of second) second why

-- memory ran out, and there is no text
pub record IsOutOfMemory (status line : ℕ) (text : List ℕ) : Type 0 where
  pub status_is : status ≡ 3
  pub line_is : line ≡ 0
  pub text_is : text ≡ []

-- with its flow entries
pub record AreTablesOf (file : List ℕ) (s : State) (missing : List ℕ) (tables : FileTables) : Type 0 where
  pub contents : FileContents
  pub read : AreContents whole_mode None (content_of file) file contents
  pub described : DescribesSwitch None contents s missing
  pub flows : AreFlowsOf contents tables

-- the switches of what two files are read as, with the same ports unless an event file says its own, and their flow entries
pub record AreBetween (first second : FileContents) (s t : State) (flows others : FileTables) (missing : List ℕ) : Type 0 where
  pub ports : PortList
  pub ports_are : ArePortsOfBoth None first second ports
  pub missing_is : missing ≡ ports.missing.items
  pub first_is : s ≡ switch_said ports.ports.items first
  pub second_is : t ≡ switch_said ports.ports.items second
  pub first_flows : AreFlowsOf first flows
  pub second_flows : AreFlowsOf second others

pub record AreSwitchesOf (first second : List ℕ) (s t : State) (flows others : FileTables) (missing : List ℕ) : Type 0 where
  pub one : FileContents
  pub other : FileContents
  pub first_read : AreContents whole_mode None (content_of first) first one
  pub second_read : AreContents whole_mode None (content_of second) second other
  pub between : AreBetween one other s t flows others missing
