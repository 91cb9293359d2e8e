use Rattle.std.proofs.Common.{◌≡◌, ◌+◌, ◌≤◌, length}
use Rattle.of_ovs_words.specs.Ipv6.{pieces, group_count}
use Rattle.of_ovs_words.proofs.ipv6.count_groups.Given as goal

abbrev pub decreases-loop-rest : goal.decreases-loop-rest
decreases-loop-rest l = length l.rest

abbrev pub invariant-loop-rest : goal.invariant-loop-rest
invariant-loop-rest l = record {
  count : group_count (pieces l.word) ≡ l.count + group_count (pieces l.rest);
  small : l.count + length l.rest ≤ length l.word;
}
