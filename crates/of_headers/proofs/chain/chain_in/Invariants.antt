use Rattle.std.proofs.Common.{◌≡◌, ◌≤◌, length, drop, ◌-◌}
use Rattle.of_layers.specs.Reading.{chain_of}
use Rattle.of_headers.specs.Places.{network_behind}
use Rattle.of_headers.proofs.chain.chain_in.Given as goal

abbrev pub invariant-loop-rest : goal.invariant-loop-rest
invariant-loop-rest l = record {
  room : l.at ≤ length l.packet;
  all : network_behind l.named l.at (chain_of (length (drop l.at l.packet)) l.kind (drop l.at l.packet)) ≡ network_behind 6 40 (chain_of (length (drop 40 l.packet)) l.first (drop 40 l.packet));
}

abbrev pub decreases-loop-rest : goal.decreases-loop-rest
decreases-loop-rest l = length l.packet - l.at
