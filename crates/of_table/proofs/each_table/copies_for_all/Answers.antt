use Rattle.of_table.proofs.{CopyLemmas.supply_more, TablesLemmas.wanted_more}
use Rattle.of_table.proofs.each_table.copies_for_all.Goals as goal

pub loop-number-preserved : goal.loop-number-preserved
loop-number-preserved g c =
    supply_more c.args.copies.now c.loop-number.copies c.copy_for.new.copies _ _ _ c.loop-number.invariant c.in_ok-copy_for.ensures
    (rw (← c.index-tables-number.is) at (wanted_more c.args.which.now c.loop-number.number c.args.tables.now c.index-tables-number.result c.loop-number-test.true))
