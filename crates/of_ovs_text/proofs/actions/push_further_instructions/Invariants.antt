use Rattle.std.{specs.List.flat_map, proofs.Common.◌≡◌, proofs.Common.◌++◌, proofs.Common.drop, proofs.Common.map}
use Rattle.of_text.specs.Views.{view_instruction}
use Rattle.of_ovs_text.specs.Actions.{further_instruction_in_words}
use Rattle.of_ovs_text.proofs.actions.push_further_instructions.Given as goal

abbrev pub invariant-loop-instruction : goal.invariant-loop-instruction
invariant-loop-instruction l = l.out.items ++ flat_map further_instruction_in_words (map view_instruction (drop l.instruction-index l.instructions)) ≡ l.fn.out.items ++ flat_map further_instruction_in_words (map view_instruction l.instructions)
