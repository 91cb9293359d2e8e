use Rattle.std.proofs.Common.{refl, arith}
use Rattle.of_text.{specs.Configs.view_tables, proofs.WriteLemmas.table_fits, proofs.WriteLemmas.table_written, proofs.WriteLemmas.tables_text, proofs.PushLemmas.all_written}
use Rattle.of_text.proofs.disassembling.write_tables.Goals as goal

pub write_flows-requires : goal.write_flows-requires
write_flows-requires c = rw c.deref.ensures.value (table_fits c.args.tables.now c.loop-table.table-index c.table-item.result (omega arith) c.table-item.is c.loop-table.invariant.fits).0

pub loop-table-preserved : goal.loop-table-preserved
loop-table-preserved c = record {
  fits = (table_fits c.args.tables.now c.loop-table.table-index c.table-item.result (omega arith) c.table-item.is c.loop-table.invariant.fits).1;
  text = table_written c.args.tables.now c.loop-table.table-index c.table-item.result _ _ _ (omega arith) c.table-item.is (rw c.deref.ensures.value at c.in_ok-write_flows.ensures) c.loop-table.invariant.text;
}

pub returns : goal.returns
returns c = all_written (λ ts. tables_text (view_tables ts)) c.loop-table.out.items _ c.args.tables.now c.loop-table.table-index c.loop-table-test.false refl c.loop-table.invariant.text
