use Rattle.std.proofs.Common.{◌+◌, ◌-◌, length}
use Rattle.of_table.specs.Entries.{flows_of}
use Rattle.of_alike.proofs.ChangedLemmas.{AreMarkedSoFar, pointed}
use Rattle.of_alike.proofs.tables.changed_among.Given as goal

abbrev pub invariant-loop-next : goal.invariant-loop-next
invariant-loop-next l = AreMarkedSoFar (flows_of (pointed l.a)) (flows_of (pointed l.b)) l.changed.a.items l.changed.b.items

abbrev pub decreases-loop-next : goal.decreases-loop-next
decreases-loop-next l = (length l.a - length l.changed.a.items) + (length l.b - length l.changed.b.items)
