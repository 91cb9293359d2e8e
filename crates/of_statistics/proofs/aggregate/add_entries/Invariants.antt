use Rattle.std.{specs.Prelude.filter, proofs.Common.◌≡◌, proofs.Common.◌≤◌, proofs.Common.◌+◌, proofs.Common.length}
use Rattle.of_table.specs.{Entries.flows_of, Selecting.selects}
use Rattle.of_statistics.specs.Adding.{plus_all}
use Rattle.of_statistics.proofs.aggregate.add_entries.Given as goal

-- what is added and what is left are all
abbrev pub invariant-loop-entry : goal.invariant-loop-entry
invariant-loop-entry l = record {
  totals : plus_all l.totals (filter (selects l.which) (flows_of l.entry-iterator)) ≡ plus_all l.fn.totals (filter (selects l.which) (flows_of l.fn.entries));
  few : l.totals.flows + length l.entry-iterator ≤ l.fn.totals.flows + length l.fn.entries;
}
