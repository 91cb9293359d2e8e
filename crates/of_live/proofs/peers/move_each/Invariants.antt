use Rattle.std.proofs.Common.{◌≡◌}
use Rattle.of_live.specs.Peers.{peer_moved}
use Rattle.of_wire.proofs.Changing.{changed_to}
use Rattle.of_live.proofs.peers.move_each.Given as goal

abbrev pub invariant-loop-peer : goal.invariant-loop-peer
invariant-loop-peer l = l.peers ≡ changed_to (peer_moved l.number l.from) l.peer-index l.initial.peers
