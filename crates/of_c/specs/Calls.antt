-- WHAT EACH CALL GIVES: what the command of its name prints, as JSON or in words where the command has both.
use Rattle.std.specs.Prelude.{◌≡◌, ◌⊎◌, ℕ, ◌==◌, ◌&&◌, not, Bool, true, false, List, [], length, Option, Some, None, Result, Ok, Err, if◌then◌else◌}
use Rattle.of_text.specs.Lines.{lines_of}
use Rattle.of_values.specs.Origins.{view_origins}
use Rattle.of_ovs_lines.specs.declared.mode.Mode.{Mode}
use Rattle.of_import_report.specs.Answers.{IsAnswer}
use Rattle.of_switch.specs.State.{State}
use Rattle.of_replay.specs.{declared.event_file.Ended.Ended, Ended.status_of, FileRuns.Writes, FileRuns.ended_as, FileRuns.is_text, Play.PrintsLines, Told.Known, Told.Left}
use Rattle.of_files.specs.declared.tables.FileTables.{FileTables}
use Rattle.of_trace.specs.{declared.form.Form.TheVariants.Plain, declared.form.Output.Output, Files.trace_on}
use Rattle.of_trace.specs.declared.form.Output.TheVariants as output
use Rattle.of_report.specs.{declared.reporting.Form.Form, Files.IsCheckReport}
use Rattle.of_report.specs.declared.reporting.Form.TheVariants as form
use Rattle.of_alike.specs.declared.alike.Compared.{Compared}
use Rattle.of_alike.specs.declared.alike.Compared.TheVariants as compared
use Rattle.of_diff_report.specs.{declared.hits.FileFlows.FileFlows, declared.writing.DiffForm.DiffForm, declared.writing.DiffVerdict.DiffVerdict, DiffFiles.IsDiffReport, DiffWords.other_limits}
use Rattle.of_diff_report.specs.declared.writing.DiffForm.TheVariants as diff_forms
use Rattle.of_diff_report.specs.declared.writing.DiffVerdict.TheVariants as verdict
use Rattle.of_wire.specs.declared.limits.TheConstants.{OFPP_ANY, OFPP_CONTROLLER}
use Rattle.of_frame_words.specs.{declared.why.NoFrame.NoFrame, Conditions.conditions_in_words, Frames.frame_in_words, Said.WordRefusal, Refusals.FrameStops}
use Rattle.of_frame_words.specs.declared.why.NoFrame.TheVariants as no_frame
use Rattle.of_paths.specs.declared.destination.Destination.{Destination}
use Rattle.of_paths.specs.declared.destination.Destination.TheVariants.{Controller, Nothing, Port}
use Rattle.of_paths.specs.declared.path.Merging.{Merging}
use Rattle.of_paths.specs.declared.path.Merging.TheVariants as merging
use Rattle.of_paths_report.specs.{declared.asked.Asked.Asked, declared.writing.PathsForm.PathsForm, declared.writing.PathsVerdict.PathsVerdict, PathsFiles.IsPathsReport}
use Rattle.of_paths_report.specs.declared.writing.PathsForm.TheVariants as paths_forms
use Rattle.of_paths_report.specs.declared.writing.PathsVerdict.TheVariants as paths_verdict
use Rattle.of_c.specs.Answers.{line_at_fault, has_port_asked, AreSwitchesOf, AreTablesOf, IsOutOfMemory, IsSwitchOf, IsUnread}

-- 5 where all is well, but ports are named that the switch does not have
abbrev pub status_with : List ℕ → ℕ → ℕ
status_with missing status = if status == 0 && not (length missing == 0) then 5 else status

-- ---- trace: 1 if the switch does not have the port

abbrev pub output_of : Bool → Output
output_of true = output.Words Plain
output_of false = output.Json

pub record IsTraceOf (file : List ℕ) (port : ℕ) (frame : List ℕ) (words : Bool) (status line : ℕ) (text : List ℕ) : Type 0 where
  pub switch : State
  pub missing : List ℕ
  pub of_file : IsSwitchOf file switch missing
  pub ended : Ended
  pub wrote : Writes (is_text (trace_on (output_of words) port frame) switch) ended (Some []) (Some text)
  pub status_is : status ≡ status_with missing (status_of ended)
  pub line_is : line ≡ 0

-- the switch of the file does not have the port
pub record LacksPort (file : List ℕ) (port status line : ℕ) (text : List ℕ) : Type 0 where
  pub switch : State
  pub missing : List ℕ
  pub of_file : IsSwitchOf file switch missing
  pub none : has_port_asked (Some port) switch ≡ false
  pub status_is : status ≡ 1
  pub line_is : line ≡ 0
  pub text_is : text ≡ []

abbrev pub IsTraced : List ℕ → ℕ → List ℕ → Bool → ℕ → ℕ → List ℕ → Type 0
IsTraced file port frame words status line text =
    IsTraceOf file port frame words status line text ⊎ (LacksPort file port status line text ⊎ IsUnread file status line text)

-- ---- import: 4 if lines or actions are left out, 2 if there is none

abbrev pub status_of_left_out : Option ℕ → ℕ
status_of_left_out None = 2
status_of_left_out (Some n) = if n == 0 then 0 else 4

pub record IsImportOf (table : List ℕ) (mode : Mode) (status line : ℕ) (text : List ℕ) : Type 0 where
  pub left_out : Option ℕ
  pub answer : IsAnswer (lines_of table) mode text left_out
  pub status_is : status ≡ status_of_left_out left_out
  pub line_is : line ≡ 0

abbrev pub IsImported : List ℕ → Mode → ℕ → ℕ → List ℕ → Type 0
IsImported table mode status line text = IsImportOf table mode status line text ⊎ IsOutOfMemory status line text

-- ---- check: 4 if something is found

abbrev pub report_form : Bool → Form
report_form true = form.Findings
report_form false = form.Json

abbrev pub status_of_found : Result Bool Ended → ℕ
status_of_found (Ok true) = 4
status_of_found (Ok false) = 0
status_of_found (Err ended) = status_of ended

pub record IsReportOf (file : List ℕ) (steps : ℕ) (words : Bool) (status line : ℕ) (text : List ℕ) : Type 0 where
  pub switch : State
  pub missing : List ℕ
  pub tables : FileTables
  pub of_file : AreTablesOf file switch missing tables
  pub result : Result Bool Ended
  pub wrote : Writes (IsCheckReport result steps (report_form words) false [] (view_origins tables.origins.items) switch.core.forwarding.tables tables.config) (ended_as result) (Some []) (Some text)
  pub status_is : status ≡ status_with missing (status_of_found result)
  pub line_is : line ≡ 0

abbrev pub IsChecked : List ℕ → ℕ → Bool → ℕ → ℕ → List ℕ → Type 0
IsChecked file steps words status line text = IsReportOf file steps words status line text ⊎ IsUnread file status line text

-- ---- diff: 4 if the switches differ, 5 if it is not known of all frames

abbrev pub compared_of : Bool → Compared
compared_of true = compared.Frames
compared_of false = compared.All

abbrev pub diff_form : Bool → DiffForm
diff_form true = diff_forms.Words
diff_form false = diff_forms.Json

abbrev pub status_of_difference : Result DiffVerdict Ended → ℕ
status_of_difference (Ok verdict.Same) = 0
status_of_difference (Ok verdict.Differs) = 4
status_of_difference (Ok verdict.OtherPorts) = 4
status_of_difference (Ok verdict.Undecided) = 5
status_of_difference (Err ended) = status_of ended

-- the flow entries of a switch, as the report takes them
pub record AreFlowsGiven (flows : FileFlows) (tables : FileTables) : Type 0 where
  pub config : flows.config.now ≡ tables.config
  pub origins : flows.origins.now ≡ tables.origins.items

pub record IsDifferenceOf (first second : List ℕ) (c : Compared) (steps : ℕ) (words : Bool) (status line : ℕ) (text : List ℕ) : Type 0 where
  pub s : State
  pub t : State
  pub tables : FileTables
  pub others : FileTables
  pub missing : List ℕ
  pub of_files : AreSwitchesOf first second s t tables others missing
  pub flows : FileFlows
  pub other_flows : FileFlows
  pub first_given : AreFlowsGiven flows tables
  pub second_given : AreFlowsGiven other_flows others
  pub result : Result DiffVerdict Ended
  pub wrote : Writes (IsDiffReport result (diff_form words) flows other_flows missing (other_limits c s.core.control.config.miss_send_len t.core.control.config.miss_send_len) c steps s.core.forwarding t.core.forwarding) (ended_as result) (Some []) (Some text)
  pub status_is : status ≡ status_of_difference result
  pub line_is : line ≡ 0

abbrev pub IsCompared : List ℕ → List ℕ → Compared → ℕ → Bool → ℕ → ℕ → List ℕ → Type 0
IsCompared first second c steps words status line text =
    IsDifferenceOf first second c steps words status line text ⊎ (IsUnread first status line text ⊎ IsUnread second status line text)

-- ---- frames in words: 2 if the words say none

abbrev pub status_of_no_words : NoFrame → ℕ
status_of_no_words no_frame.NoMemory = 3
status_of_no_words (no_frame.Refused why) = 2

pub record IsFrameOf (port : ℕ) (words : List ℕ) (comes_in_by status line : ℕ) (bytes : List ℕ) : Type 0 where
  pub frame_is : frame_in_words port words ≡ Ok (record { port = comes_in_by; frame = bytes })
  pub status_is : status ≡ 0
  pub line_is : line ≡ 0

-- words without a meaning give nothing
pub record IsWithoutWords {A : Type 0} (read : Result A WordRefusal) (status line : ℕ) (text : List ℕ) : Type 0 where
  pub why : NoFrame
  pub stops : FrameStops read why
  pub status_is : status ≡ status_of_no_words why
  pub line_is : line ≡ 0
  pub text_is : text ≡ []

-- a frame, and the port by which it comes in; that is the same if there is none
abbrev pub IsFrameTold : ℕ → List ℕ → ℕ → ℕ → ℕ → List ℕ → Type 0
IsFrameTold port words in_port status line bytes =
    IsFrameOf port words in_port status line bytes ⊎ ((in_port ≡ port) × IsWithoutWords (frame_in_words port words) status line bytes)

-- ---- paths: 5 if frames are undecided, 1 if the switch does not have the port that is asked for, 2 if words are no match

-- 0: any port
abbrev pub port_asked : ℕ → Option ℕ
port_asked port = if port == 0 then None else Some port

-- 0: any place
abbrev pub place_asked : ℕ → Option Destination
place_asked to = if to == 0 then None else (if to == OFPP_CONTROLLER then Some Controller else (if to == OFPP_ANY then Some Nothing else Some (Port to)))

abbrev pub merging_of : Bool → Merging
merging_of true = merging.Each
merging_of false = merging.SameWay

pub record IsWanted (port : ℕ) (within : List ℕ) (to : ℕ) (each : Bool) (steps : ℕ) (asked : Asked) : Type 0 where
  pub port_is : asked.port ≡ port_asked port
  pub within_is : conditions_in_words within ≡ Ok asked.within.items
  pub merging_is : asked.merging ≡ merging_of each
  pub to_is : asked.to ≡ place_asked to
  pub steps_is : asked.steps ≡ steps

abbrev pub has_place : Option Destination → State → Bool
has_place (Some (Port port)) s = has_port_asked (Some port) s
has_place other s = true

abbrev pub paths_form : Bool → PathsForm
paths_form true = paths_forms.Words
paths_form false = paths_forms.Json

abbrev pub status_of_paths : Result PathsVerdict Ended → ℕ
status_of_paths (Ok paths_verdict.Complete) = 0
status_of_paths (Ok paths_verdict.Undecided) = 5
status_of_paths (Err ended) = status_of ended

pub record ArePathsOf (file : List ℕ) (port : ℕ) (within : List ℕ) (to : ℕ) (each : Bool) (steps : ℕ) (words : Bool) (status line : ℕ) (text : List ℕ) : Type 0 where
  pub switch : State
  pub missing : List ℕ
  pub of_file : IsSwitchOf file switch missing
  pub asked : Asked
  pub asked_is : IsWanted port within to each steps asked
  pub result : Result PathsVerdict Ended
  pub wrote : Writes (IsPathsReport result (paths_form words) asked switch.core.forwarding) (ended_as result) (Some []) (Some text)
  pub status_is : status ≡ status_with missing (status_of_paths result)
  pub line_is : line ≡ 0

-- the switch of the file does not have a port that is asked for
pub record HasNoPort (file : List ℕ) (port to status line : ℕ) (text : List ℕ) : Type 0 where
  pub switch : State
  pub missing : List ℕ
  pub of_file : IsSwitchOf file switch missing
  pub none : (has_port_asked (port_asked port) switch && has_place (place_asked to) switch) ≡ false
  pub status_is : status ≡ 1
  pub line_is : line ≡ 0
  pub text_is : text ≡ []

abbrev pub ArePathsTold : List ℕ → ℕ → List ℕ → ℕ → Bool → ℕ → Bool → ℕ → ℕ → List ℕ → Type 0
ArePathsTold file port within to each steps words status line text =
    ArePathsOf file port within to each steps words status line text
    ⊎ (HasNoPort file port to status line text ⊎ (IsWithoutWords (conditions_in_words within) status line text ⊎ IsUnread file status line text))

-- ---- replay and explain

-- the lines of the file were printed so, on a new switch with this datapath_id, up to the first that is no row
pub record IsPrinted (text_of : List (List ℕ) → List ℕ) (events : List ℕ) (status line : ℕ) (text : List ℕ) : Type 0 where
  pub ended : Ended
  pub left : Known
  pub ends : ℕ
  pub prints : PrintsLines text_of ended (Left (Some events)) left 0 ends (Some []) (Some text)
  pub status_is : status ≡ status_of ended
  pub line_is : line ≡ line_at_fault ended
