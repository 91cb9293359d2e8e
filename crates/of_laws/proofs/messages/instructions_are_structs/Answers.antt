use Rattle.std.proofs.Common.{arith}
use Rattle.of_laws.proofs.InstructionStructs.{found, only_structs}
use Rattle.of_laws.proofs.messages.instructions_are_structs.Goals as goal

pub returns-clause-found : goal.returns-clause-found
returns-clause-found c = found c.args.table c.args.bytes.now (λ i. omega (arith, c.type_inv.bytes i))

pub returns-clause-only : goal.returns-clause-only
returns-clause-only c = only_structs c.args.table c.args.bytes.now
