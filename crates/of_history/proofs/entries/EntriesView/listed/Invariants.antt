use Rattle.std.proofs.Common.{◌≡◌, take}
use Rattle.of_statistics.specs.Flows.{from_tables}
use Rattle.of_history.specs.Selected.{table_selected}
use Rattle.of_history.proofs.entries.EntriesView.listed.Given as goal

abbrev pub invariant-loop-table : goal.invariant-loop-table
invariant-loop-table g l = l.out.items ≡ from_tables (table_selected l.self.filter l.self.fields l.switch.core.forwarding l.moment) 0 (take l.table l.switch.core.forwarding.tables.tables)
