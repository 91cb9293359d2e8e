use Rattle.std.proofs.Common.{◌≡◌, ◌++◌, length}
use Rattle.of_lines.specs.Lines.{lines_of}
use Rattle.of_import.specs.{Counters.with_notes, CounterViews.notes_to_come, CounterViews.view_notes}
use Rattle.of_import.proofs.counters.push_with_notes.Given as goal

abbrev pub decreases-loop-rest : goal.decreases-loop-rest
decreases-loop-rest l = length l.rest

abbrev pub invariant-loop-rest : goal.invariant-loop-rest
invariant-loop-rest l = l.out.items ++ with_notes (notes_to_come l.left.items) (lines_of l.rest) ≡ l.fn.out.items ++ with_notes (view_notes l.fn.notes.items) (lines_of l.text)
