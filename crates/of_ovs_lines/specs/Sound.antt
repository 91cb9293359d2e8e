-- A FLOW WHOSE LINES MAY STAND IN A FLOW TEXT: each number fits its place, and its fields and instructions are in order.
use Rattle.std.specs.{Prelude.◌++◌, Prelude.map, Prelude.IsSome, List.AllByRecursion, List.flat_map}
use Rattle.of_lines.specs.declared.row.Row.TheVariants as rows
use Rattle.of_text.specs.{Flows.Flow, Flows.flow_rows, Flows.instruction_rows, Groups.group_rows, Order.flow_standing, Rows.Fits, Views.view, Views.view_group}
use Rattle.of_ovs_lines.specs.declared.line.LineContent.{LineContent as Declared}
use Rattle.of_ovs_lines.specs.declared.line.LineContent.TheVariants as variants

pub record IsSoundFlow (f : Flow) : Type 0 where
  pub fits : AllByRecursion Fits (flow_rows f)
  pub order : IsSome (flow_standing 0 (map rows.Match f.fields ++ flat_map instruction_rows f.instructions))

-- the same of what a line says
abbrev pub IsSoundContent : Declared → Type 0
IsSoundContent variants.Nothing = Unit {0}
IsSoundContent (variants.Group g) = AllByRecursion Fits (group_rows (view_group g))
IsSoundContent (variants.Flow f marks) = IsSoundFlow (view f)
IsSoundContent (variants.Refused faults) = Unit {0}
