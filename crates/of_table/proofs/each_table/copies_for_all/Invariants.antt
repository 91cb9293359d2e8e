use Rattle.std.proofs.Common.{◌≡◌, ◌+◌, take}
use Rattle.of_table.specs.Copies.{wanted_from}
use Rattle.of_table.proofs.each_table.copies_for_all.Given as goal

abbrev pub invariant-loop-number : goal.invariant-loop-number
invariant-loop-number g l = l.copies ≡ record l.initial.copies { count = l.initial.copies.count + wanted_from l.which 0 (take l.number l.tables) }
