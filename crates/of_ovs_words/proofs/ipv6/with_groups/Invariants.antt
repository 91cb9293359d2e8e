use Rattle.std.proofs.Common.{◌≡◌, length}
use Rattle.of_ovs_words.specs.Ipv6.{pieces, with_groups}
use Rattle.of_ovs_words.proofs.ipv6.with_groups.Given as goal

abbrev pub decreases-loop-rest : goal.decreases-loop-rest
decreases-loop-rest l = length l.rest

abbrev pub invariant-loop-rest : goal.invariant-loop-rest
invariant-loop-rest l = with_groups l.missing l.fn.wanted 0 (pieces l.word) ≡ with_groups l.missing l.wanted l.value (pieces l.rest)
