use Rattle.std.proofs.Common.{◌≡◌, length}
use Rattle.of_text.specs.Lines.{lines_of}
use Rattle.of_history.specs.Reasons.{parts_at_lookup}
use Rattle.of_history.proofs.reason.parts_at_lookup.Given as goal

abbrev pub invariant-loop-gone : goal.invariant-loop-gone
invariant-loop-gone l = parts_at_lookup (lines_of l.gone) (lines_of l.come) ≡ parts_at_lookup (lines_of l.old) (lines_of l.new)

abbrev pub decreases-loop-gone : goal.decreases-loop-gone
decreases-loop-gone l = length l.gone
