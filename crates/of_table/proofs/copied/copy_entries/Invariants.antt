use Rattle.std.proofs.Common.{◌≡◌, take}
use Rattle.of_table.specs.Entries.{flows_of, rows_of}
use Rattle.of_table.proofs.copied.copy_entries.Given as goal

abbrev pub invariant-loop-entry : goal.invariant-loop-entry
invariant-loop-entry g l = (flows_of l.copies.items ≡ flows_of (take l.entry-index l.entries)) × (g.L.Lookup.content l.lookup ≡ rows_of l.copies.items)
