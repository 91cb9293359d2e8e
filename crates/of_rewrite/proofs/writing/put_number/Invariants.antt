use Rattle.std.proofs.Common.{◌≤◌}
use Rattle.of_rewrite.proofs.Going.{Going}
use Rattle.of_rewrite.proofs.writing.put_number.Given as goal

abbrev pub invariant-loop-left : goal.invariant-loop-left
invariant-loop-left l = record {
  going : Going l.fn.place.first l.fn.place.bits l.value l.fn.bytes l.fn.sums l.first l.left l.bytes l.sums;
  most : l.left ≤ 128;
}

abbrev pub decreases-loop-left : goal.decreases-loop-left
decreases-loop-left l = l.left
