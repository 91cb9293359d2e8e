-- REQUIREMENTS of the switch of a file, which has the ports that they name: the report of `check --require`.
use Rattle.std.specs.Prelude.{◌≡◌, ◌⊎◌, ◌++◌, ℕ, Bool, true, false, List, [], ◌∷◌, map, Some, None, Result, Ok, Err}
use Rattle.std.specs.List.{AllByRecursion, flat_map}
use Rattle.of_values.specs.Origins.{view_origins}
use Rattle.of_datapath.specs.Datapath.{world_of}
use Rattle.of_switch.specs.State.{State}
use Rattle.of_replay.specs.{declared.event_file.Ended.Ended, Ended.status_of, FileRuns.Writes, FileRuns.ended_as}
use Rattle.of_files.specs.Switches.{AreContents, AreFlowsOf, FileContents, Run, Tables, ports_named, ports_of_switch, switch_said, whole_mode}
use Rattle.of_files.specs.{declared.tables.FileTables.FileTables, Contents.content_of, NamedPorts.missing_ports, NamedPorts.named_by_field, NamedPorts.named_ports, NamedPorts.ports_with}
use Rattle.of_report.specs.Files.{IsCheckReport}
use Rattle.of_paths.specs.{declared.destination.Destination.Destination, declared.destination.Destination.TheVariants.Port}
use Rattle.of_require.specs.{declared.answers.Answer.Answer, declared.deciding.Verdict.Verdict}
use Rattle.of_require.specs.{declared.deciding.Verdict.TheVariants.Fails, declared.deciding.Verdict.TheVariants.Holds, declared.deciding.Verdict.TheVariants.Undecided, declared.line.Line.Line}
use Rattle.of_require.specs.{declared.refusal.NoRequirement.NoRequirement, declared.refusal.NoRequirement.TheVariants.NoMemory, declared.refusal.NoRequirement.TheVariants.Refused}
use Rattle.of_require.specs.{declared.refusal.NoRequirements.NoRequirements, declared.requirement.Demand.Demand}
use Rattle.of_require.specs.declared.requirement.Demand.TheVariants.{Has, LeavesBy, LeavesOnlyBy, PassesTable}
use Rattle.of_require.specs.{Answers.IsFoundAbout, Answers.worst_of, RequirementFiles.FileStops, RequirementFiles.requirements_in, RequirementFiles.view_line, RequirementsJson.requirements_member}
use Rattle.of_require.specs.Words.{requirements_words}
use Rattle.of_c.specs.{Answers.IsOutOfMemory, Answers.IsUnread, Calls.report_form, Calls.status_with}

-- ---- the ports that requirements name: those of a match on IN_PORT, and those of places

abbrev pub named_by_place : Destination → List ℕ
named_by_place (Port port) = port ∷ []
named_by_place other = []

abbrev pub places_demanded : Demand → List Destination
places_demanded (LeavesBy places) = places.items
places_demanded (LeavesOnlyBy places) = places.items
places_demanded (PassesTable table) = []
places_demanded (Has places fields) = places.items

abbrev pub named_by_line : Line → List ℕ
named_by_line l = flat_map named_by_field l.requirement.within.items ++ flat_map named_by_place (places_demanded l.requirement.demand)

-- ---- the switch: groups and flows on a switch that also has these ports; an event file says its own

abbrev pub missing_with : List ℕ → FileContents → List ℕ
missing_with required (Tables tables) = missing_ports (named_ports tables.config ++ required) (ports_with (named_ports tables.config ++ required))
missing_with required (Run switch) = missing_ports required (ports_of_switch switch)

pub record DescribesWith (required : List ℕ) (contents : FileContents) (s : State) (missing : List ℕ) : Type 0 where
  pub switch_is : s ≡ switch_said (ports_with (ports_named contents ++ required)) contents
  pub missing_is : missing ≡ missing_with required contents

pub record AreTablesWith (required : List ℕ) (file : List ℕ) (s : State) (missing : List ℕ) (tables : FileTables) : Type 0 where
  pub contents : FileContents
  pub read : AreContents whole_mode None (content_of file) file contents
  pub described : DescribesWith required contents s missing
  pub flows : AreFlowsOf contents tables

-- ---- the report: 4 if something is found or a requirement fails, 5 if one is undecided

-- the further members of the JSON object, or the further lines
abbrev pub further_text : Bool → List Answer → List ℕ
further_text true answers = requirements_words false answers
further_text false answers = requirements_member answers

abbrev pub status_of_both : Result Bool Ended → Verdict → ℕ
status_of_both (Err ended) verdict = status_of ended
status_of_both (Ok true) verdict = 4
status_of_both (Ok false) Fails = 4
status_of_both (Ok false) Undecided = 5
status_of_both (Ok false) Holds = 0

pub record IsReportWith (s : State) (tables : FileTables) (missing : List ℕ) (lines : List Line) (steps : ℕ) (words : Bool) (status line : ℕ) (text : List ℕ) : Type 0 where
  pub answers : List Answer
  pub of_lines : map (λ answer. answer.line) answers ≡ lines
  pub found : AllByRecursion (IsFoundAbout (world_of s.core.forwarding) steps) answers
  pub result : Result Bool Ended
  pub wrote : Writes (IsCheckReport result steps (report_form words) false (further_text words answers) (view_origins tables.origins.items) s.core.forwarding.tables tables.config) (ended_as result) (Some []) (Some text)
  pub status_is : status ≡ status_with missing (status_of_both result (worst_of answers))
  pub line_is : line ≡ 0

abbrev pub AreAnswered : State → FileTables → List ℕ → List Line → ℕ → Bool → ℕ → ℕ → List ℕ → Type 0
AreAnswered s tables missing lines steps words status line text = IsReportWith s tables missing lines steps words status line text ⊎ IsOutOfMemory status line text

pub record IsRequiredOf (file requirements : List ℕ) (steps : ℕ) (words : Bool) (status line : ℕ) (text : List ℕ) : Type 0 where
  pub lines : List Line
  pub lines_are : requirements_in requirements ≡ Ok (map view_line lines)
  pub switch : State
  pub missing : List ℕ
  pub tables : FileTables
  pub of_file : AreTablesWith (flat_map named_by_line lines) file switch missing tables
  pub answered : AreAnswered switch tables missing lines steps words status line text

-- ---- a text that has no requirements gives no report

abbrev pub status_of_stop : NoRequirement → ℕ
status_of_stop NoMemory = 3
status_of_stop (Refused why) = 2

abbrev pub line_of_stop : ℕ → NoRequirement → ℕ
line_of_stop line NoMemory = 0
line_of_stop line (Refused why) = line

abbrev pub status_of_refused : NoRequirements → ℕ
status_of_refused stop = status_of_stop stop.why

abbrev pub line_of_refused : NoRequirements → ℕ
line_of_refused stop = line_of_stop stop.line stop.why

pub record HasNoRequirements (requirements : List ℕ) (status line : ℕ) (text : List ℕ) : Type 0 where
  pub why : NoRequirements
  pub stops : FileStops (requirements_in requirements) why
  pub status_is : status ≡ status_of_refused why
  pub line_is : line ≡ line_of_refused why
  pub text_is : text ≡ []

abbrev pub IsRequired : List ℕ → List ℕ → ℕ → Bool → ℕ → ℕ → List ℕ → Type 0
IsRequired file requirements steps words status line text =
    IsRequiredOf file requirements steps words status line text ⊎ (HasNoRequirements requirements status line text ⊎ IsUnread file status line text)
