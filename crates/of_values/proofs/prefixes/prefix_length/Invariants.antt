use Rattle.std.proofs.Common.{◌≡◌, ◌≤◌}
use Rattle.of_values.specs.Masks.{prefix_below}
use Rattle.of_values.proofs.prefixes.prefix_length.Given as goal

abbrev pub decreases-loop-bits : goal.decreases-loop-bits
decreases-loop-bits l = l.bits

abbrev pub invariant-loop-bits : goal.invariant-loop-bits
invariant-loop-bits l = record {
  few : l.bits ≤ l.limit;
  found : prefix_below l.ones l.mask l.limit ≡ prefix_below l.ones l.mask l.bits;
}
