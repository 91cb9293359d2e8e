use Rattle.std.proofs.Common.{◌≡◌, length}
use Rattle.of_text.specs.Lines.{lines_of}
use Rattle.of_shadowing.specs.Conditions.{is_row_of}
use Rattle.of_shadowing.proofs.conditions.is_row.Given as goal

abbrev pub decreases-loop-rest : goal.decreases-loop-rest
decreases-loop-rest l = length l.rest

abbrev pub invariant-loop-rest : goal.invariant-loop-rest
invariant-loop-rest l = is_row_of (lines_of l.rows) l.name ≡ is_row_of (lines_of l.rest) l.name
