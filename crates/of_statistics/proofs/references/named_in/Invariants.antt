use Rattle.std.{specs.Prelude.Some, specs.List.count_by, proofs.Common.◌≡◌, proofs.Common.◌≤◌, proofs.Common.◌*◌, proofs.Common.take}
use Rattle.of_table.specs.{Selecting.names_group, Tables.tables_of}
use Rattle.of_statistics.specs.Flows.{from_tables}
use Rattle.of_statistics.proofs.references.named_in.Given as goal

abbrev pub invariant-loop-table : goal.invariant-loop-table
invariant-loop-table g l = record {
  count : l.count ≡ count_by (names_group (Some l.group)) (from_tables (λ k t. t.flows) 0 (take l.table (tables_of l.tables).tables));
  few : l.count ≤ 4096 * l.table;
}
