use Rattle.std.proofs.Common.{◌≡◌, ◌++◌, take}
use Rattle.of_table.specs.Selecting.{numbered_notices, all_told}
use Rattle.of_table.proofs.removing.list_gone.Given as goal

abbrev pub invariant-loop-entry : goal.invariant-loop-entry
invariant-loop-entry l = all_told l.removed.items ≡ all_told l.initial.removed.items ++ numbered_notices l.cause l.table (take l.entry-index l.entries)
