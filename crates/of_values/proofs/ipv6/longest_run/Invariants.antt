use Rattle.std.proofs.Common.{◌≡◌, ◌≤◌}
use Rattle.of_values.specs.Ipv6.{longest_run}
use Rattle.of_values.proofs.ipv6.longest_run.Given as goal

abbrev pub decreases-loop-left : goal.decreases-loop-left
decreases-loop-left l = l.left

abbrev pub invariant-loop-left : goal.invariant-loop-left
invariant-loop-left l = record {
  few : l.left ≤ l.limit;
  same : longest_run l.limit l.number ≡ longest_run l.left l.number;
}
