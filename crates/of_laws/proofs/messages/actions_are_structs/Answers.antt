use Rattle.std.proofs.Common.{arith}
use Rattle.of_laws.proofs.ActionStructs.{found, only}
use Rattle.of_laws.proofs.messages.actions_are_structs.Goals as goal

pub returns-clause-found : goal.returns-clause-found
returns-clause-found c = found c.args.packet_out c.args.bytes.now (λ i. omega (arith, c.type_inv.bytes i))

pub returns-clause-only : goal.returns-clause-only
returns-clause-only c = only c.args.packet_out c.args.bytes.now
