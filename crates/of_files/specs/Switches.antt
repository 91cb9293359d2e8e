-- THE SWITCH THAT A FILE DESCRIBES: that of its groups and flows, with ports that are given or that the file names; or the one after the rows of an event
-- file.
use Rattle.std.specs.Prelude.{◌≡◌, ◌++◌, ℕ, true, false, List, [], map, Option, Some, None, Err}
use Rattle.std.specs.{Global.Vec, Option.option_map, Option.option_or}
use Rattle.of_text.specs.Lines.{lines_of}
use Rattle.of_switch.specs.{State.State, Loading.config_of}
use Rattle.of_replay.specs.{declared.event_file.Ended.TheVariants.NoMemory, FileRuns.IsRead, FileRuns.IsValue, Loaded.switch_with}
use Rattle.of_ovs_lines.specs.declared.mode.Mode.{Mode}
use Rattle.of_import.specs.Imports.{NoImport}
use Rattle.of_files.specs.declared.contents.Content.{Content}
use Rattle.of_files.specs.declared.contents.Content.TheVariants.{FlowText, EventFile, OvsTable}
use Rattle.of_files.specs.{declared.switches.Contents.Contents, declared.switches.NoContents.NoContents}
use Rattle.of_files.specs.{declared.switches.NoContents.TheVariants.Ended, declared.switches.NoContents.TheVariants.NotImported, declared.switches.PortList.PortList}
use Rattle.of_files.specs.{declared.tables.FileTables.FileTables, Contents.content_of, FileTables.IsNothingLeftOut, FileTables.IsTableRead, FileTables.tables_of_text, FirstEvents.with_controller}
use Rattle.of_files.specs.{NamedPorts.missing_ports, NamedPorts.named_ports, NamedPorts.ports_with, Playing.played_file}
use Rattle.of_files.specs.declared.switches.Contents.TheVariants as declared

-- ---- what a file is read as

-- as it is said, or by its content
abbrev pub content_said : Option Content → List ℕ → Content
content_said None file = content_of file
content_said (Some content) file = content

-- groups and flows, or the switch after the rows of an event file
pub data FileContents : Type 0 where
  Tables : (tables : FileTables) → FileContents
  Run : (switch : State) → FileContents

abbrev pub view_contents : {L : Type 0} → Contents L → FileContents
view_contents (declared.Tables tables) = Tables tables
view_contents (declared.Events switch) = Run switch

-- as WHOLE: nothing is left out of what ovs-ofctl prints, and tables have its numbers
abbrev pub whole_mode : Mode
whole_mode = record { skip = false; renumber = false }

-- of an event file, all its lines or so many first ones; what ovs-ofctl prints is read in this mode
abbrev pub AreContents : Mode → Option ℕ → Content → List ℕ → FileContents → Type 0
AreContents mode lines FlowText file (Tables tables) = tables_of_text true file (IsValue tables)
AreContents mode lines OvsTable file (Tables tables) = IsTableRead mode file tables
AreContents mode lines EventFile file (Run switch) = played_file lines true file (IsValue switch)
AreContents mode lines other file contents = ⊥

-- why there are none: memory ran out; or a fault of the text, of the rows, or of the table, as each of them is read
abbrev pub HasNoContents : Mode → Option ℕ → Content → List ℕ → NoContents → Type 0
HasNoContents mode lines FlowText file (Ended ended) = IsRead tables_of_text (Err ended) true file
HasNoContents mode lines EventFile file (Ended ended) = IsRead (played_file lines) (Err ended) true file
HasNoContents mode lines OvsTable file (NotImported error) = NoImport (lines_of file) mode error
HasNoContents mode lines OvsTable file (Ended NoMemory) = Unit {0}
HasNoContents mode lines other file why = ⊥

-- ---- the ports

abbrev pub ports_given : Option (Vec ℕ) → Option (List ℕ)
ports_given given = option_map (λ ports. ports.items) given

abbrev pub ports_of_switch : State → List ℕ
ports_of_switch s = map (λ p. p.number) s.core.forwarding.ports

-- those that a file names, or that the switch of an event file has
abbrev pub ports_named : FileContents → List ℕ
ports_named (Tables tables) = named_ports tables.config
ports_named (Run switch) = ports_of_switch switch

-- those that are given; else ports 1 to 4 and those that are named
abbrev pub chosen_ports : Option (List ℕ) → List ℕ → List ℕ
chosen_ports None named = ports_with named
chosen_ports (Some given) named = given

pub record ArePorts (given : Option (List ℕ)) (named : List ℕ) (list : PortList) : Type 0 where
  pub ports : list.ports.items ≡ chosen_ports given named
  pub missing : list.missing.items ≡ missing_ports named (chosen_ports given named)

-- ---- THE SWITCH: groups and flows on a new switch with these ports, to which a controller has connected; an event file says its own

abbrev pub switch_said : List ℕ → FileContents → State
switch_said ports (Tables tables) = with_controller (switch_with ports tables.config)
switch_said ports (Run switch) = switch

-- the ports that are named and that it does not have
abbrev pub missing_said : Option (List ℕ) → FileContents → List ℕ
missing_said given (Tables tables) = missing_ports (named_ports tables.config) (chosen_ports given (named_ports tables.config))
missing_said given (Run switch) = []

abbrev pub DescribesSwitch : Option (List ℕ) → FileContents → State → List ℕ → Type 0
DescribesSwitch given contents s missing = (s ≡ switch_said (chosen_ports given (ports_named contents)) contents) × (missing ≡ missing_said given contents)

-- its flow entries: those of the file with their lines, or those of the switch without lines
abbrev pub AreFlowsOf : FileContents → FileTables → Type 0
AreFlowsOf (Tables tables) found = found ≡ tables
AreFlowsOf (Run switch) found = (found.config ≡ config_of switch) × (found.origins.items ≡ []) × IsNothingLeftOut found.left_out

-- ---- the switches of two files, which are compared

abbrev pub own_ports : FileContents → Option (List ℕ)
own_ports (Tables tables) = None
own_ports (Run switch) = Some (ports_of_switch switch)

-- the ports that are given; else those of the first switch that is one after the rows of an event file; else those that the files name
abbrev pub ports_of_both : Option (List ℕ) → (first second : FileContents) → List ℕ
ports_of_both given first second = chosen_ports (option_or given (option_or (own_ports first) (own_ports second))) (ports_named first ++ ports_named second)

abbrev pub missing_of_both : List ℕ → (first second : FileContents) → List ℕ
missing_of_both ports (Run s) (Run t) = []
missing_of_both ports first second = missing_ports (ports_named first ++ ports_named second) ports

pub record ArePortsOfBoth (given : Option (List ℕ)) (first second : FileContents) (list : PortList) : Type 0 where
  pub ports : list.ports.items ≡ ports_of_both given first second
  pub missing : list.missing.items ≡ missing_of_both (ports_of_both given first second) first second
