use Rattle.std.{specs.List.AllByRecursion, proofs.Common.◌≡◌, proofs.Common.◌++◌, proofs.Common.drop}
use Rattle.of_lines.specs.Rows.{Fits}
use Rattle.of_text.{specs.Flows.rows_of_all_flows, specs.Configs.all_flows, specs.Configs.view_tables, proofs.WriteLemmas.tables_text}
use Rattle.of_text.proofs.disassembling.write_tables.Given as goal

abbrev pub invariant-loop-table : goal.invariant-loop-table
invariant-loop-table l = record {
  fits : AllByRecursion Fits (rows_of_all_flows (all_flows (view_tables (drop l.table-index l.tables))));
  text : l.out.items ++ tables_text (view_tables (drop l.table-index l.tables)) ≡ l.fn.out.items ++ tables_text (view_tables l.tables);
}
