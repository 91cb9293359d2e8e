use Rattle.std.proofs.Common.{◌≡◌, take}
use Rattle.of_table.specs.Tables.{tables_of}
use Rattle.of_text.specs.Configs.{view_tables}
use Rattle.of_datapath.specs.{Configuring.AreKeptFrom, Loading.texts_from}
use Rattle.of_datapath.proofs.configuring.tables_text.Given as goal

abbrev pub invariant-loop-table : goal.invariant-loop-table
invariant-loop-table g l = record {
  made : view_tables l.made.items ≡ texts_from 0 (take l.table (tables_of l.tables).tables);
  kept : AreKeptFrom 0 (take l.table (tables_of l.tables).tables);
}
