use Rattle.std.{specs.Prelude.map, proofs.Common.◌≡◌, proofs.Common.◌++◌, proofs.Common.drop}
use Rattle.of_text.specs.Views.{view_instruction}
use Rattle.of_ovs_text.proofs.flow.instructions_of.Given as goal

abbrev pub invariant-loop-text : goal.invariant-loop-text
invariant-loop-text l = l.list.items ++ map view_instruction (drop l.text-index l.texts) ≡ map view_instruction l.texts
