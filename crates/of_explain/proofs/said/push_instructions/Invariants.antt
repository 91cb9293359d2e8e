use Rattle.std.{specs.List.flat_map, proofs.Common.◌≡◌, proofs.Common.◌++◌, proofs.Common.take}
use Rattle.of_text.specs.Flows.{instruction_rows}
use Rattle.of_explain.proofs.said.push_instructions.Given as goal

abbrev pub invariant-loop-instruction : goal.invariant-loop-instruction
invariant-loop-instruction l = l.rows.items ≡ l.initial.rows.items ++ flat_map instruction_rows (take l.instruction-index l.instructions)
