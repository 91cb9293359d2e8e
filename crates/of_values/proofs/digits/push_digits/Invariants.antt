use Rattle.std.proofs.Common.{◌≡◌, ◌++◌, ◌≤◌}
use Rattle.of_values.specs.Numbers.{digits}
use Rattle.of_values.proofs.digits.push_digits.Given as goal

abbrev pub decreases-loop-place : goal.decreases-loop-place
decreases-loop-place l = l.place

abbrev pub invariant-loop-place : goal.invariant-loop-place
invariant-loop-place l = record {
  few : l.place ≤ l.most;
  text : l.out.items ++ digits l.least l.place l.number ≡ l.fn.out.items ++ digits l.least l.most l.number;
}
