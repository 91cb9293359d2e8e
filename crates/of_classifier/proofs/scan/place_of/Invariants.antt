use Rattle.std.proofs.Common.{◌≡◌, take, false}
use Rattle.of_wire.specs.Numbered.{is_used}
use Rattle.of_classifier.specs.Rows.{row_number}
use Rattle.of_classifier.proofs.scan.place_of.Given as goal

abbrev pub invariant-loop-i : goal.invariant-loop-i
invariant-loop-i l = is_used row_number l.number (take l.i l.rows) ≡ false
