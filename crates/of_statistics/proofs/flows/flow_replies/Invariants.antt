use Rattle.std.proofs.Common.{◌≡◌, map, take}
use Rattle.of_table.specs.Tables.{tables_of}
use Rattle.of_statistics.specs.{Replies.empty_draft, Replies.with_rows, Flows.flow_row, Flows.from_tables, Flows.listed_in}
use Rattle.of_statistics.proofs.flows.flow_replies.Given as goal

abbrev pub invariant-loop-table : goal.invariant-loop-table
invariant-loop-table g l = l.out ≡ with_rows (empty_draft l.xid 1) (map (flow_row l.tables.latest) (from_tables (listed_in l.which) 0 (take l.table (tables_of l.tables).tables)))
