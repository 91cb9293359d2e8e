use Rattle.of_live.specs.Peers.{peer_moved}
use Rattle.of_wire.proofs.Changing.{changed_more}
use Rattle.of_live.proofs.peers.move_each.Goals as goal

pub loop-peer-preserved : goal.loop-peer-preserved
loop-peer-preserved c = changed_more (peer_moved c.args.number c.args.from) c.loop-peer.peer-index c.args.peers.now c.loop-peer.peers c.moved.result _ c.loop-peer-test.true c.loop-peer.invariant c.moved.ensures
