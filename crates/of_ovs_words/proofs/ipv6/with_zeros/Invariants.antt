use Rattle.std.proofs.Common.{◌≡◌}
use Rattle.of_ovs_words.specs.Ipv6.{with_zeros}
use Rattle.of_ovs_words.proofs.ipv6.with_zeros.Given as goal

abbrev pub decreases-loop-left : goal.decreases-loop-left
decreases-loop-left l = l.left

abbrev pub invariant-loop-left : goal.invariant-loop-left
invariant-loop-left l = with_zeros l.count l.fn.value ≡ with_zeros l.left l.value
