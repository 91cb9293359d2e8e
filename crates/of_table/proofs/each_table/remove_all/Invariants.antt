use Rattle.std.proofs.Common.{◌≡◌, length}
use Rattle.of_table.{specs.Tables.kept_table, proofs.TablesLemmas.each_to}
use Rattle.of_table.proofs.each_table.remove_all.Given as goal

abbrev pub invariant-loop-number : goal.invariant-loop-number
invariant-loop-number g l = record {
  tables : l.tables ≡ each_to (kept_table l.cause) 0 l.number l.initial.tables;
  length : length l.tables ≡ length l.initial.tables;
}
