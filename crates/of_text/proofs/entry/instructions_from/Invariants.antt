use Rattle.std.{specs.Prelude.map, specs.List.list_all, proofs.Common.◌≡◌, proofs.Common.◌++◌, proofs.Common.true, proofs.Common.drop}
use Rattle.of_actions.specs.InstructionLists.{is_served_body}
use Rattle.of_text.specs.Views.{view_instruction}
use Rattle.of_text.proofs.entry.instructions_from.Given as goal

abbrev pub invariant-loop-text : goal.invariant-loop-text
invariant-loop-text l = record {
  served : list_all is_served_body (map view_instruction (drop l.text-index l.texts)) ≡ true;
  made : l.instructions.items ++ map view_instruction (drop l.text-index l.texts) ≡ map view_instruction l.texts;
}
