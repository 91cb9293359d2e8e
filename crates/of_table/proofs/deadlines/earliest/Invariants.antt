use Rattle.std.proofs.Common.{take}
use Rattle.of_table.specs.Deadlines.{NoneOver}
use Rattle.of_table.proofs.deadlines.earliest.Given as goal

abbrev pub invariant-loop-entry : goal.invariant-loop-entry
invariant-loop-entry l = NoneOver l.due (take l.entry-index l.entries)
