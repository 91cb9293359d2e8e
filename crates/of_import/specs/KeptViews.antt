-- What is kept, apart from its layout in memory.
use Rattle.std.specs.{Prelude.ℕ, Prelude.Bool, Prelude.map, Global.Vec}
use Rattle.of_wire.specs.declared.code.Code.{Code}
use Rattle.of_import.specs.{declared.parsed_lines.FlowLine.FlowLine, declared.parsed_lines.GroupLine.GroupLine, declared.kept.LineRefusal.LineRefusal, declared.kept.KeptLines.KeptLines}
use Rattle.of_import.specs.{ParsedLinesViews.view_flow_line, ParsedLinesViews.view_group_line, Kept.Kept, Kept.KeptGroups, Notes.is_changed}

abbrev pub view_refusal : LineRefusal → ℕ × Code
view_refusal r = (r.line, r.code)

abbrev pub view_kept_groups : Vec GroupLine → Vec LineRefusal → KeptGroups
view_kept_groups groups refused = record { groups = map view_group_line groups.items; refused = map view_refusal refused.items }

abbrev pub view_kept : KeptLines → Kept
view_kept k = record { groups = map view_group_line k.groups.items; flows = map view_flow_line k.flows.items; refused = map view_refusal k.refused.items }

-- an action of the flow is left out
unfoldable pub loses_action : FlowLine → Bool
loses_action f = is_changed (view_flow_line f)
