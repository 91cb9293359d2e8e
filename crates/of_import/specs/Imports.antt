-- THE TEXT OF A TABLE OF OPEN VSWITCH: the configuration that its lines say, without those that are left out, after comments about these.
use Rattle.std.specs.Prelude.{◌≡◌, ◌<◌, ◌≤◌, ◌+◌, ◌++◌, ℕ, false, List, [], filter, map, length, slice_index_or, None, Some, if◌then◌else◌}
use Rattle.std.specs.List.{AllByRecursion}
use Rattle.of_text.specs.{Flows.Flow as TextFlow, Configs.Configuration, Configs.EncodeConfig, Configs.tables_of_flows, Configs.config_text, Groups.TextGroup, Lines.lines_of, First.first_refusal}
use Rattle.of_ovs_lines.specs.declared.mode.Mode.{Mode}
use Rattle.of_import.specs.Kept.{Kept, flows_in, groups_in, kept_of_lines, line_of_item}
use Rattle.of_import.specs.{declared.parsed_lines.LineFaults.LineFaults, declared.kept.KeptLines.KeptLines, declared.kept.LineRefusal.LineRefusal, declared.import.ImportError.ImportError}
use Rattle.of_import.specs.declared.import.ImportError.TheVariants.{NoMemory, Faults, Refused, TooMany}
use Rattle.of_import.specs.{ParsedLinesViews.AreSoundGroups, ParsedLinesViews.FlowIsSound, ParsedLinesViews.view_faults, ParsedLines.FlowAt, ParsedLines.ParsedLines, ParsedLines.parsed_lines_of}
use Rattle.of_import.specs.{KeptViews.view_kept, KeptViews.view_refusal, TableNumbers.TableNumbers, TableNumbers.table_numbers_of, TableNumbers.same_numbers, Counters.with_counters}
use Rattle.of_import.specs.Notes.{is_changed, notes_of}

-- the configuration has these groups and flows, each flow in its table after those before it, and none is refused
pub record IsConfigOf (gs : List (ℕ × TextGroup)) (fs : List FlowAt) (c : Configuration) : Type 0 where
  pub groups : c.groups ≡ groups_in gs
  pub tables : c.tables ≡ tables_of_flows (flows_in fs)
  pub stand : first_refusal (groups_in gs) (flows_in fs) ≡ None

-- the text of a configuration, with the counters of its flows, after comments: it is read back as that
pub record IsTextOf (k : Kept) (notes text : List ℕ) : Type 0 where
  pub config : Configuration
  pub is : IsConfigOf k.groups k.flows config
  pub text_is : text ≡ notes ++ with_counters k.flows (config_text config)
  pub encoded : EncodeConfig (lines_of (config_text config)) config

-- ---- the lines

-- the new numbers of tables
abbrev pub numbers_for : Mode → List (List ℕ) → TableNumbers
numbers_for mode lines = if mode.renumber then table_numbers_of (parsed_lines_of mode [] lines).flows else same_numbers

abbrev pub parsed : Mode → List (List ℕ) → ParsedLines
parsed mode lines = parsed_lines_of mode (numbers_for mode lines).numbers lines

abbrev pub kept_in : ParsedLines → Kept
kept_in t = kept_of_lines t.groups t.flows

abbrev pub notes_for : Mode → List (List ℕ) → List ℕ
notes_for mode lines = notes_of (numbers_for mode lines).moves (parsed mode lines).faults (kept_in (parsed mode lines))

-- A TEXT, the lines with words that are refused, and those that the switch refuses (without `skip` there are none), and how many flows have an action left out
pub record IsImportText (lines : List (List ℕ)) (mode : Mode) (text : List ℕ) (faults : List LineFaults) (refused : List LineRefusal) (changed : ℕ) : Type 0 where
  pub text_is : IsTextOf (kept_in (parsed mode lines)) (notes_for mode lines) text
  pub faults_are : map view_faults faults ≡ (parsed mode lines).faults
  pub refused_are : map view_refusal refused ≡ (kept_in (parsed mode lines)).refused
  pub changed_is : changed ≡ length (filter is_changed (kept_in (parsed mode lines)).flows)
  pub none : mode.skip ≡ false → length faults + length refused ≡ 0
  pub few : (numbers_for mode lines).count ≤ 16

-- THE SAME, with its groups and flows and the lines that the switch refuses (without `skip` no line is refused), which
-- tables have another number, and how many flows have an action left out
pub record IsImport (lines : List (List ℕ)) (mode : Mode) (text : List ℕ) (faults : List LineFaults) (kept : KeptLines) (moves : List (ℕ × ℕ)) (changed : ℕ) : Type 0 where
  pub text_is : IsTextOf (kept_in (parsed mode lines)) (notes_for mode lines) text
  pub faults_are : map view_faults faults ≡ (parsed mode lines).faults
  pub kept_is : view_kept kept ≡ kept_in (parsed mode lines)
  pub moves_are : moves ≡ (numbers_for mode lines).moves
  pub changed_is : changed ≡ length (filter is_changed (kept_in (parsed mode lines)).flows)
  pub none : mode.skip ≡ false → length faults + length kept.refused.items ≡ 0
  pub few : (numbers_for mode lines).count ≤ 16

-- THE CONFIGURATION alone, with its groups and flows and the lines that the switch refuses
pub record IsImportConfig (lines : List (List ℕ)) (mode : Mode) (config : Configuration) (faults : List LineFaults) (kept : KeptLines) (changed : ℕ) : Type 0 where
  pub is : IsConfigOf (kept_in (parsed mode lines)).groups (kept_in (parsed mode lines)).flows config
  pub faults_are : map view_faults faults ≡ (parsed mode lines).faults
  pub kept_is : view_kept kept ≡ kept_in (parsed mode lines)
  pub changed_is : changed ≡ length (filter is_changed (kept_in (parsed mode lines)).flows)
  pub none : mode.skip ≡ false → length faults + length kept.refused.items ≡ 0
  pub few : (numbers_for mode lines).count ≤ 16

-- ---- why there is none

-- the first group or flow that is refused beside the others, by its line
abbrev pub RefusedOf : List (ℕ × TextGroup) → List FlowAt → ImportError → Type 0
RefusedOf gs fs NoMemory = Unit {0}
RefusedOf gs fs (Faults faults refused) = ⊥
RefusedOf gs fs (Refused line code) = (place : ℕ) × (first_refusal (groups_in gs) (flows_in fs) ≡ Some (place, code)) × (line ≡ line_of_item place gs fs)
RefusedOf gs fs (TooMany count) = ⊥

-- some lines are refused, and these are all
abbrev pub FaultsOf : Mode → ParsedLines → ImportError → Type 0
FaultsOf mode t NoMemory = Unit {0}
FaultsOf mode t (Faults faults refused) = (mode.skip ≡ false) × (map view_faults faults.items ≡ t.faults) × (map view_refusal refused.items ≡ (kept_in t).refused) × (0 < length faults.items + length refused.items)
FaultsOf mode t (Refused line code) = ⊥
FaultsOf mode t (TooMany count) = ⊥

-- WHY THERE IS NONE: memory ran out; some lines are refused, and these are all; or the first flow that is refused beside the others, such as
-- one for which its table has no room, by its line, and its first refusal; or there are more than 16 tables
abbrev pub NoImport : List (List ℕ) → Mode → ImportError → Type 0
NoImport lines mode NoMemory = Unit {0}
NoImport lines mode (Faults faults refused) = FaultsOf mode (parsed mode lines) (Faults faults refused)
NoImport lines mode (Refused line code) = RefusedOf (kept_in (parsed mode lines)).groups (kept_in (parsed mode lines)).flows (Refused line code)
NoImport lines mode (TooMany count) = (count ≡ (numbers_for mode lines).count) × (16 < count)

-- ---- for contracts inside this crate

-- a configuration of these groups and flows, none of which is refused
abbrev pub IsFilled : List TextGroup → List TextFlow → Configuration → Type 0
IsFilled gs fs c = (c.groups ≡ gs) × (c.tables ≡ tables_of_flows fs) × (first_refusal gs fs ≡ None)

-- the first group or flow that is refused, by its line
abbrev pub RefusedAt : List ℕ → List TextGroup → List TextFlow → ImportError → Type 0
RefusedAt lines gs fs NoMemory = Unit {0}
RefusedAt lines gs fs (Faults faults refused) = ⊥
RefusedAt lines gs fs (Refused line code) = (place : ℕ) × (first_refusal gs fs ≡ Some (place, code)) × (line ≡ slice_index_or lines place 0)
RefusedAt lines gs fs (TooMany count) = ⊥

-- what is known of a table before its text is written
pub record HasBegun (lines : List (List ℕ)) (mode : Mode) (notes : List ℕ) (faults : List LineFaults) (kept : KeptLines) (moves : List (ℕ × ℕ)) (changed : ℕ) : Type 0 where
  pub notes_are : notes ≡ notes_for mode lines
  pub faults_are : map view_faults faults ≡ (parsed mode lines).faults
  pub kept_is : view_kept kept ≡ kept_in (parsed mode lines)
  pub moves_are : moves ≡ (numbers_for mode lines).moves
  pub changed_is : changed ≡ length (filter is_changed (kept_in (parsed mode lines)).flows)
  pub none : mode.skip ≡ false → length faults + length kept.refused.items ≡ 0
  pub few : (numbers_for mode lines).count ≤ 16
  pub groups : AreSoundGroups kept.groups.items
  pub flows : AllByRecursion FlowIsSound kept.flows.items
