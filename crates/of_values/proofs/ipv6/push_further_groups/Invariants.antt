use Rattle.std.proofs.Common.{◌≡◌, ◌++◌, ◌≤◌}
use Rattle.of_values.specs.Ipv6.{further_groups}
use Rattle.of_values.proofs.ipv6.push_further_groups.Given as goal

abbrev pub decreases-loop-left : goal.decreases-loop-left
decreases-loop-left l = l.left

abbrev pub invariant-loop-left : goal.invariant-loop-left
invariant-loop-left l = record {
  few : l.left ≤ l.count;
  text : l.out.items ++ further_groups l.low l.left l.number ≡ l.fn.out.items ++ further_groups l.low l.count l.number;
}
