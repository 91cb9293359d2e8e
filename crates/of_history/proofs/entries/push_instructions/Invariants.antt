use Rattle.std.{specs.Prelude.IsTrue, specs.List.flat_map, specs.List.list_all, proofs.Common.◌≡◌, proofs.Common.◌++◌, proofs.Common.drop}
use Rattle.of_actions.specs.InstructionLists.{is_served_body}
use Rattle.of_history.specs.Selected.{instruction_words}
use Rattle.of_history.proofs.entries.push_instructions.Given as goal

abbrev pub invariant-loop-instruction : goal.invariant-loop-instruction
invariant-loop-instruction g l = record {
  served : IsTrue (list_all is_served_body (drop l.instruction-index l.instructions));
  text : l.out.items ++ flat_map (instruction_words l.switch.core.forwarding) (drop l.instruction-index l.instructions)
      ≡ l.fn.out.items ++ flat_map (instruction_words l.switch.core.forwarding) l.instructions;
}
