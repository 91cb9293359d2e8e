use Rattle.std.{specs.List.flat_map, proofs.Common.◌≡◌, proofs.Common.◌++◌}
use Rattle.of_table.specs.Entries.{flows_of}
use Rattle.of_history.specs.Selected.{entry_selected}
use Rattle.of_history.proofs.entries.EntriesView.push_entries.Given as goal

-- the entries that are written and those that are left are all
abbrev pub invariant-loop-entry : goal.invariant-loop-entry
invariant-loop-entry g l =
    l.out.items ++ flat_map (entry_selected l.self.filter l.self.fields l.switch.core.forwarding l.moment l.table) (flows_of l.entry-iterator)
    ≡ l.fn.out.items ++ flat_map (entry_selected l.self.filter l.self.fields l.switch.core.forwarding l.moment l.table) (flows_of l.fn.entries)
