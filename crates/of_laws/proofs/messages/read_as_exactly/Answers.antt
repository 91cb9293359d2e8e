use Rattle.std.proofs.Common.{arith}
use Rattle.of_laws.proofs.Senders.{found_as, only_as, refused_as}
use Rattle.of_laws.proofs.messages.read_as_exactly.Goals as goal

pub returns-clause-found : goal.returns-clause-found
returns-clause-found c m h = let f = found_as c.args.role c.args.bytes.now m (λ i. omega (arith, c.type_inv.bytes i)) h in (f.encoded, f.may)

pub returns-clause-only : goal.returns-clause-only
returns-clause-only c xid m s may = only_as c.args.role xid m c.args.bytes.now s may

pub returns-clause-slave : goal.returns-clause-slave
returns-clause-slave c xid m s change = refused_as xid m c.args.bytes.now s change
