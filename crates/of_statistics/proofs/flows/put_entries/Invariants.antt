use Rattle.std.proofs.Common.{◌≡◌}
use Rattle.of_table.specs.Entries.{flows_of}
use Rattle.of_statistics.specs.{Replies.with_rows, Flows.rows_of_entries}
use Rattle.of_statistics.proofs.flows.put_entries.Given as goal

-- the rows that are put and those that are left are all
abbrev pub invariant-loop-entry : goal.invariant-loop-entry
invariant-loop-entry l = with_rows l.out (rows_of_entries l.now l.which l.table (flows_of l.entry-iterator)) ≡ with_rows l.fn.out (rows_of_entries l.now l.which l.table (flows_of l.fn.entries))
