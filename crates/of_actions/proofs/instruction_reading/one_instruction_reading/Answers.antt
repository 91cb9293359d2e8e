use Rattle.of_actions.proofs.InstructionLaws.{one_list, not_both, one_code}
use Rattle.of_actions.proofs.instruction_reading.one_instruction_reading.Goals as goal

pub returns-clause-list : goal.returns-clause-list
returns-clause-list c = one_list

pub returns-clause-encoded : goal.returns-clause-encoded
returns-clause-encoded c = not_both

pub returns-clause-code : goal.returns-clause-code
returns-clause-code c = one_code
