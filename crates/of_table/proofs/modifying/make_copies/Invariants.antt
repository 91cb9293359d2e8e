use Rattle.std.proofs.Common.{◌≡◌, ◌+◌, take}
use Rattle.of_table.specs.Copies.{wanted}
use Rattle.of_table.proofs.modifying.make_copies.Given as goal

abbrev pub invariant-loop-entry : goal.invariant-loop-entry
invariant-loop-entry l = l.copies ≡ record l.initial.copies { count = l.initial.copies.count + wanted l.which (take l.entry-index l.entries) }
