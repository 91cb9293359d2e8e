use Rattle.std.{specs.Prelude.replicate, proofs.Common.◌≡◌, proofs.Common.◌++◌, proofs.Common.take}
use Rattle.of_table.specs.Tables.{tables_of}
use Rattle.of_statistics.specs.Flows.{from_tables, table_row}
use Rattle.of_statistics.proofs.tables.table_reply.Given as goal

abbrev pub invariant-loop-table : goal.invariant-loop-table
invariant-loop-table g l = l.out.items ≡ replicate 16 0 ++ from_tables table_row 0 (take l.table (tables_of l.tables).tables)
