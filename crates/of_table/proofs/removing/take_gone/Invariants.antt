use Rattle.std.proofs.Common.{◌≡◌, ◌++◌, take, drop}
use Rattle.of_table.specs.{Entries.rows_of, Selecting.kept_of}
use Rattle.of_table.proofs.removing.take_gone.Given as goal

abbrev pub invariant-loop-entry : goal.invariant-loop-entry
invariant-loop-entry g l = g.L.Lookup.content l.lookup ≡ rows_of (kept_of l.cause (take l.entry-index l.entries) ++ drop l.entry-index l.entries)
