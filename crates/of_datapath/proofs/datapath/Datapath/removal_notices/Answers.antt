use Rattle.of_table.specs.Tables.{notices_in, tables_of}
use Rattle.of_datapath.proofs.Hearing.{none_heard}
use Rattle.of_datapath.proofs.datapath.Datapath.removal_notices.Goals as goal

pub returns-then-heard-eq0 : goal.returns-then-heard-eq0
returns-then-heard-eq0 g c = rw (none_heard c.args.heard c.args.now (notices_in c.args.cause.now (tables_of c.args.self.now.tables)) c.if-heard-eq0.true) c.new.ensures.items
