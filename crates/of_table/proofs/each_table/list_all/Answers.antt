use Rattle.std.proofs.Common.{[]}
use Rattle.of_table.proofs.TablesLemmas.{told_more}
use Rattle.of_table.proofs.each_table.list_all.Goals as goal

pub loop-number-preserved : goal.loop-number-preserved
loop-number-preserved g c = told_more c.args.cause.now c.loop-number.number c.args.tables.now c.index-tables-number.result [] _ _ c.loop-number-test.true c.index-tables-number.is c.loop-number.invariant c.in_ok-list.ensures
