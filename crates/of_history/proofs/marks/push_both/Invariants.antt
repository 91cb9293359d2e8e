use Rattle.std.proofs.Common.{◌≡◌, ◌++◌, length}
use Rattle.of_text.specs.Lines.{lines_of}
use Rattle.of_history.specs.Changes.{marked_lines}
use Rattle.of_history.proofs.marks.push_both.Given as goal

abbrev pub invariant-loop-out : goal.invariant-loop-out
invariant-loop-out l = l.out.items ++ marked_lines (lines_of l.gone) (lines_of l.come) ≡ l.fn.out.items ++ marked_lines (lines_of l.old) (lines_of l.new)

abbrev pub decreases-loop-out : goal.decreases-loop-out
decreases-loop-out l = length l.gone
