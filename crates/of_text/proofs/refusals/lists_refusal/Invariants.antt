use Rattle.std.{specs.List.flat_map, proofs.Common.◌≡◌, proofs.Common.drop}
use Rattle.of_wire.specs.Refusals.{first_of}
use Rattle.of_text.specs.{Refusals.instruction_refusals, Views.view_instruction}
use Rattle.of_text.proofs.refusals.lists_refusal.Given as goal

abbrev pub invariant-loop-instruction : goal.invariant-loop-instruction
invariant-loop-instruction l = first_of (flat_map (λ i. instruction_refusals (view_instruction i)) l.instructions) ≡ first_of (flat_map (λ i. instruction_refusals (view_instruction i)) (drop l.instruction-index l.instructions))
