use Rattle.std.proofs.Common.{◌≡◌, ◌≤◌}
use Rattle.of_values.specs.Ipv6.{run_below}
use Rattle.of_values.proofs.ipv6.first_run.Given as goal

abbrev pub decreases-loop-behind : goal.decreases-loop-behind
decreases-loop-behind l = l.behind

abbrev pub invariant-loop-behind : goal.invariant-loop-behind
invariant-loop-behind l = record {
  few : l.behind ≤ l.limit;
  same : run_below l.size l.limit l.number ≡ run_below l.size l.behind l.number;
}
