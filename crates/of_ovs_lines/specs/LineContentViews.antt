-- What a line says, apart from its layout in memory.
use Rattle.std.specs.Prelude.{map}
use Rattle.of_text.specs.Views.{view, view_group}
use Rattle.of_ovs_lines.specs.LineContents.{LineContent, Marks, Nothing, Group, Flow, Refused}
use Rattle.of_ovs_lines.specs.{declared.line.FlowMarks.FlowMarks, declared.line.LineContent.LineContent as Declared, PartialFlowViews.view_word_fault}
use Rattle.of_ovs_lines.specs.declared.line.LineContent.TheVariants as variants

abbrev pub view_marks : FlowMarks → Marks
view_marks m = record { left = map (λ w. w.items) m.left.items; resubmits = m.resubmits; counters = map (λ w. w.items) m.counters.items }

abbrev pub view_line_content : Declared → LineContent
view_line_content variants.Nothing = Nothing
view_line_content (variants.Group g) = Group (view_group g)
view_line_content (variants.Flow f marks) = Flow (view f) (view_marks marks)
view_line_content (variants.Refused faults) = Refused (map view_word_fault faults.items)
