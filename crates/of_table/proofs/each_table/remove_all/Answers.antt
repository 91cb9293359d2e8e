use Rattle.std.proofs.{Common.◌∙◌, lemmas.List.length-set}
use Rattle.of_table.{specs.Tables.kept_table, proofs.TablesLemmas.each_more, proofs.TablesLemmas.each_all, proofs.Soundness.kept_all_sound}
use Rattle.of_table.proofs.each_table.remove_all.Goals as goal

pub loop-number-preserved : goal.loop-number-preserved
loop-number-preserved g c = record {
  tables = each_more (kept_table c.args.cause.now) c.loop-number.number c.loop-number.tables c.args.tables.now c.remove.new.self _ c.loop-number-test.true c.loop-number.invariant.tables c.remove.ensures;
  length = length-set c.loop-number.tables c.loop-number.number c.remove.new.self ∙ c.loop-number.invariant.length;
}

pub returns-clause-sound : goal.returns-clause-sound
returns-clause-sound g c = kept_all_sound c.args.cause.now c.args.tables.now c.loop-number.tables (c.loop-number.invariant.tables ∙ each_all (kept_table c.args.cause.now) c.loop-number.number c.args.tables.now c.loop-number-test.false)
