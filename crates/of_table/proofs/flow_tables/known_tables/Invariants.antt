use Rattle.std.{specs.Prelude.slice_index_or, proofs.Common.◌≡◌, proofs.Common.ℕ, proofs.Common.◌<◌, proofs.Common.true}
use Rattle.of_wire.specs.Numbered.{is_distinct}
use Rattle.of_table.specs.Entries.{no_entries, entry_number}
use Rattle.of_table.proofs.flow_tables.known_tables.Given as goal

abbrev pub invariant-loop-table : goal.invariant-loop-table
invariant-loop-table g l = (k : ℕ) → k < l.table-index → is_distinct entry_number (slice_index_or l.tables k no_entries).entries ≡ true
