use Rattle.std.{specs.Prelude.map, proofs.Common.◌≡◌, proofs.Common.◌++◌, proofs.Common.◌-◌, proofs.Common.◌≤◌}
use Rattle.of_import.specs.{ParsedLinesViews.view_flow_line, TableNumbers.count_from, TableNumbers.moves_from, TableNumbers.table_numbers_from}
use Rattle.of_import.proofs.table_numbers.TableNumbers.of.Given as goal

abbrev pub decreases-loop-table : goal.decreases-loop-table
decreases-loop-table l = 256 - l.table

abbrev pub invariant-loop-table : goal.invariant-loop-table
invariant-loop-table l = record {
  small : l.table ≤ 256;
  numbers : l.made.numbers.items ++ table_numbers_from (map view_flow_line l.flows) (256 - l.table) l.table l.made.count ≡ table_numbers_from (map view_flow_line l.flows) 256 0 0;
  moves : l.made.moves.items ++ moves_from (map view_flow_line l.flows) (256 - l.table) l.table l.made.count ≡ moves_from (map view_flow_line l.flows) 256 0 0;
  count : count_from (map view_flow_line l.flows) (256 - l.table) l.table l.made.count ≡ count_from (map view_flow_line l.flows) 256 0 0;
}
