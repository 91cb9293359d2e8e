use Rattle.std.{specs.Prelude.map, proofs.Common.◌≡◌, proofs.Common.◌++◌, proofs.Common.drop}
use Rattle.of_text.specs.Views.{view_instruction}
use Rattle.of_import.proofs.copies.copy_instructions.Given as goal

abbrev pub invariant-loop-instruction : goal.invariant-loop-instruction
invariant-loop-instruction l = record {
  made : map view_instruction l.copies.items ++ map view_instruction (drop l.instruction-index l.instructions) ≡ map view_instruction l.instructions;
}
