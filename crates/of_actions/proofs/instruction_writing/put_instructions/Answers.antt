use Rattle.of_actions.proofs.{InstructionsAgain.instructions_encoded, InstructionLengths.instructions_short}
use Rattle.of_actions.proofs.instruction_writing.put_instructions.Goals as goal

pub returns-clause-encoded : goal.returns-clause-encoded
returns-clause-encoded c = λ table valid. instructions_encoded table c.args.instructions.now c.as_slice.ensures.kept valid

pub returns-clause-short : goal.returns-clause-short
returns-clause-short c = instructions_short c.args.instructions.now c.as_slice.ensures.kept
