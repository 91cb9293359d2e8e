use Rattle.std.proofs.Common.{map}
use Rattle.of_table.specs.Entries.{flows_of}
use Rattle.of_alike.specs.SameTables.{says_of}
use Rattle.of_symbolic_run.proofs.Pairing.{SameIfLeft}
use Rattle.of_alike.proofs.tables.have_same_entries.Given as goal

abbrev pub invariant-loop-entry : goal.invariant-loop-entry
invariant-loop-entry l = SameIfLeft (map says_of (flows_of l.fn.a)) (map says_of (flows_of l.fn.b)) (map says_of (flows_of l.entry-iterator)) (map says_of (flows_of l.others))
