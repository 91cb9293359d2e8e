use Rattle.std.proofs.Common.{arith}
use Rattle.of_laws.proofs.{Found.found, Found.other, Only.only, Only.xid_is}
use Rattle.of_laws.proofs.messages.read_exactly.Goals as goal

pub returns-clause-found : goal.returns-clause-found
returns-clause-found c m h = found c.args.bytes.now m (λ i. omega (arith, c.type_inv.bytes i)) h

pub returns-clause-only : goal.returns-clause-only
returns-clause-only c xid m s = (xid_is xid m c.args.bytes.now s, only xid m c.args.bytes.now s)

pub returns-clause-other : goal.returns-clause-other
returns-clause-other c none = other c.args.bytes.now (λ i. omega (arith, c.type_inv.bytes i)) none
