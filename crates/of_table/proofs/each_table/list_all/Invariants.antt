use Rattle.std.proofs.Common.{◌≡◌, take}
use Rattle.of_table.specs.{Selecting.all_told, Tables.numbered_notices_from}
use Rattle.of_table.proofs.each_table.list_all.Given as goal

abbrev pub invariant-loop-number : goal.invariant-loop-number
invariant-loop-number g l = all_told l.removed.items ≡ numbered_notices_from l.cause 0 (take l.number l.tables)
