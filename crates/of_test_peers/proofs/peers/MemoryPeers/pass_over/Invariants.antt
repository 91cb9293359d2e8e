use Rattle.std.proofs.Common.{◌≡◌, ◌-◌, length, take}
use Rattle.of_test_peers.proofs.peers.MemoryPeers.pass_over.Given as goal

abbrev pub invariant-loop-self : goal.invariant-loop-self
invariant-loop-self l =
    let s = l.initial.self in
    (l.self.at ≡ s.at) × (take s.at l.self.script.items ≡ take s.at s.script.items)
    × (l.self.taken.items ≡ s.taken.items) × (l.self.late_accepts ≡ s.late_accepts) × (l.self.late_reads ≡ s.late_reads)
    × (l.self.accepts ≡ s.accepts) × (l.self.reads ≡ s.reads) × (l.self.accept_failures ≡ s.accept_failures) × (l.self.write_failures ≡ s.write_failures)

abbrev pub decreases-loop-self : goal.decreases-loop-self
decreases-loop-self l = length l.self.script.items - l.self.at
