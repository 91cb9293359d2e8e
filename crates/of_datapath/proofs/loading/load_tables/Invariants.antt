use Rattle.of_table.specs.Tables.{tables_of}
use Rattle.of_datapath.proofs.LoadLemmas.{FilledTo}
use Rattle.of_datapath.proofs.loading.load_tables.Given as goal

abbrev pub invariant-loop-table : goal.invariant-loop-table
invariant-loop-table g l = FilledTo l.latest l.table l.config.tables (tables_of l.tables)
