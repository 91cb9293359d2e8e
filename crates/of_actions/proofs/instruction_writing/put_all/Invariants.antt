use Rattle.std.proofs.Common.{◌≡◌, ◌++◌, take}
use Rattle.of_actions.specs.CanonicalInstructions.{canonical_instructions}
use Rattle.of_actions.proofs.instruction_writing.put_all.Given as goal

abbrev pub invariant-loop-instruction : goal.invariant-loop-instruction
invariant-loop-instruction l = l.out.items ≡ l.fn.out.items ++ canonical_instructions (take l.instruction-index l.instructions)
