use Rattle.of_symbolic.specs.Branching.{AreNearEntries}
use Rattle.of_symbolic.proofs.branching.near_entries.Given as goal

abbrev pub invariant-loop-entry : goal.invariant-loop-entry
invariant-loop-entry l = AreNearEntries l.part l.yielded l.near.items
