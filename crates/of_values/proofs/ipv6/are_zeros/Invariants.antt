use Rattle.std.proofs.Common.{◌≡◌, ◌≤◌}
use Rattle.of_values.specs.Ipv6.{are_zeros}
use Rattle.of_values.proofs.ipv6.are_zeros.Given as goal

abbrev pub decreases-loop-left : goal.decreases-loop-left
decreases-loop-left l = l.left

abbrev pub invariant-loop-left : goal.invariant-loop-left
invariant-loop-left l = record {
  few : l.left ≤ l.size;
  same : are_zeros l.behind l.size l.number ≡ are_zeros l.behind l.left l.number;
}
