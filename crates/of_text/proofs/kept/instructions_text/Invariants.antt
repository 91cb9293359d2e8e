use Rattle.std.{specs.Prelude.map, proofs.Common.◌≡◌, proofs.Common.◌++◌, proofs.Common.drop}
use Rattle.of_text.specs.Views.{view_instruction}
use Rattle.of_text.proofs.kept.instructions_text.Given as goal

abbrev pub invariant-loop-instruction : goal.invariant-loop-instruction
invariant-loop-instruction l = record {
  made : map view_instruction l.texts.items ++ drop l.instruction-index l.instructions ≡ l.instructions;
}
