use Rattle.std.proofs.Common.{◌≡◌, ◌≤◌, ◌+◌}
use Rattle.of_serve.specs.{Turns.nothing_pending, Turns.standing, Serves.tells, Gathering.SoFar}
use Rattle.of_serve.proofs.serving.take_turns.Given as goal

abbrev pub invariant-loop : goal.invariant-loop
invariant-loop g l = record {
  count : g.P.Peers.accepts l.peers + g.P.Peers.reads l.peers ≡ l.counter;
  accept_failures : g.P.Peers.accept_failures l.peers ≡ 0;
  write_failures : g.P.Peers.write_failures l.peers ≤ l.counter;
  writes : g.K.Sink.failures l.out ≡ 0;
  empty : l.gathering ≡ nothing_pending l.gathering.state;
  so_far : SoFar l.counter (standing l.fn.gathering.state l.fn.rows) l.gathering l.rows (tells (g.P.Peers.came l.fn.peers) (g.C.Clock.times l.fn.clock) (g.P.Peers.took l.fn.peers) (g.P.Peers.write_failures l.fn.peers) (g.K.Sink.taken l.fn.out))
      (tells (g.P.Peers.came l.peers) (g.C.Clock.times l.clock) (g.P.Peers.took l.peers) (g.P.Peers.write_failures l.peers) (g.K.Sink.taken l.out));
}
