use Rattle.of_actions.proofs.{InstructionLaws.is_only, InstructionLaws.is_exact, Computed.is_computed}
use Rattle.of_actions.proofs.instruction_reading.read_instructions.Goals as goal

pub returns-clause-only : goal.returns-clause-only
returns-clause-only c = is_only c.args.table c.args.bytes.now c.parse_instructions.result c.parse_instructions.ensures.found c.parse_instructions.ensures.refused

pub returns-clause-exact : goal.returns-clause-exact
returns-clause-exact c = is_exact c.args.table c.args.bytes.now c.parse_instructions.result c.parse_instructions.ensures.found c.parse_instructions.ensures.refused

pub returns-clause-reads : goal.returns-clause-reads
returns-clause-reads c = is_computed c.args.table c.args.bytes.now c.parse_instructions.result c.parse_instructions.ensures.found c.parse_instructions.ensures.refused
