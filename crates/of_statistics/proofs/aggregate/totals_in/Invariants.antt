use Rattle.std.proofs.Common.{◌≡◌, ◌≤◌, ◌*◌, take}
use Rattle.of_table.specs.Tables.{tables_of}
use Rattle.of_statistics.specs.{Flows.from_tables, Adding.asked_of, Adding.nothing, Adding.plus_all}
use Rattle.of_statistics.proofs.aggregate.totals_in.Given as goal

abbrev pub invariant-loop-table : goal.invariant-loop-table
invariant-loop-table g l = record {
  totals : l.totals ≡ plus_all nothing (from_tables (asked_of l.which) 0 (take l.table (tables_of l.tables).tables));
  few : l.totals.flows ≤ 4096 * l.table;
}
