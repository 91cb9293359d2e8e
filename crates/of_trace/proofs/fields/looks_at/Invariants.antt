use Rattle.std.proofs.Common.{◌≡◌}
use Rattle.of_table.specs.Entries.{flows_of}
use Rattle.of_trace.specs.Notes.{looks_at}
use Rattle.of_trace.proofs.fields.looks_at.Given as goal

abbrev pub invariant-loop-entry : goal.invariant-loop-entry
invariant-loop-entry l = looks_at (flows_of l.entry-iterator) l.field ≡ looks_at (flows_of l.fn.entries) l.field
