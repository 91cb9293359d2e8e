-- What was read, apart from its layout in memory.
use Rattle.std.specs.Prelude.{◌≡◌, ℕ, true, map, List}
use Rattle.std.specs.List.{AllByRecursion}
use Rattle.of_actions.specs.Rising.{is_ascending}
use Rattle.of_text.specs.{Groups.TextGroup, Groups.group_rows, Rows.Fits, Views.view, Views.view_group}
use Rattle.of_import.specs.{declared.parsed_lines.GroupLine.GroupLine, declared.parsed_lines.FlowLine.FlowLine, declared.parsed_lines.LineFaults.LineFaults}
use Rattle.of_import.specs.{declared.parsed_lines.ParsedLines.ParsedLines as Declared, ParsedLines.FlowAt, ParsedLines.ParsedLines}
use Rattle.of_ovs_lines.specs.{PartialFlows.Refusal, PartialFlowViews.view_word_fault, LineContentViews.view_marks, Sound.IsSoundFlow}

abbrev pub view_group_line : GroupLine → ℕ × TextGroup
view_group_line g = (g.line, view_group g.group)

abbrev pub view_flow_line : FlowLine → FlowAt
view_flow_line f = record { line = f.line; flow = view f.flow; marks = view_marks f.marks }

abbrev pub view_faults : LineFaults → ℕ × List Refusal
view_faults f = (f.line, map view_word_fault f.faults.items)

abbrev pub view_parsed_lines : Declared → ParsedLines
view_parsed_lines r = record { groups = map view_group_line r.groups.items; flows = map view_flow_line r.flows.items; faults = map view_faults r.faults.items }

abbrev pub id_of : GroupLine → ℕ
id_of g = g.group.head.id

abbrev pub GroupFits : GroupLine → Type 0
GroupFits g = AllByRecursion Fits (group_rows (view_group g.group))

abbrev pub FlowIsSound : FlowLine → Type 0
FlowIsSound f = IsSoundFlow (view f.flow)

-- groups by ascending number, each of which may stand in a flow text
pub record AreSoundGroups (groups : List GroupLine) : Type 0 where
  pub rising : is_ascending id_of groups ≡ true
  pub each : AllByRecursion GroupFits groups

-- the same, and each flow may stand in a flow text
pub record AreSoundLines (r : Declared) : Type 0 where
  pub rising : is_ascending id_of r.groups.items ≡ true
  pub groups : AllByRecursion GroupFits r.groups.items
  pub flows : AllByRecursion FlowIsSound r.flows.items
