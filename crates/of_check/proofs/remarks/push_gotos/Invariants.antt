use Rattle.std.{specs.Prelude.map, specs.List.flat_map, proofs.Common.◌≡◌, proofs.Common.◌++◌, proofs.Common.drop}
use Rattle.of_text.specs.Views.{view_instruction}
use Rattle.of_check.specs.Remarks.{goto_remarks}
use Rattle.of_check.proofs.remarks.push_gotos.Given as goal

abbrev pub invariant-loop-instruction : goal.invariant-loop-instruction
invariant-loop-instruction l = l.out.items ++ flat_map (goto_remarks l.config.tables l.table l.place) (map view_instruction (drop l.instruction-index l.flow.instructions.items)) ≡ l.fn.out.items ++ flat_map (goto_remarks l.config.tables l.table l.place) (map view_instruction l.flow.instructions.items)
