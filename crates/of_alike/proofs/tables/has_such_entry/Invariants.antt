use Rattle.std.{specs.List.Contains, proofs.Common.map}
use Rattle.of_table.specs.Entries.{entry_of, flows_of}
use Rattle.of_alike.specs.SameTables.{EntrySays, says_of}
use Rattle.of_alike.proofs.tables.has_such_entry.Given as goal

abbrev pub invariant-loop-other : goal.invariant-loop-other
invariant-loop-other l =
    let all = map says_of (flows_of l.fn.entries) in
    let rest = map says_of (flows_of l.other-iterator) in
    ((s : EntrySays) → Contains rest s → Contains all s) × (Contains all (says_of (entry_of l.entry)) → Contains rest (says_of (entry_of l.entry)))
