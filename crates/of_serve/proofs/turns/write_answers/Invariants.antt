use Rattle.std.proofs.Common.{◌≡◌, ◌≤◌, ◌-◌, length, take}
use Rattle.of_serve.specs.Told.{then_onto}
use Rattle.of_serve.proofs.turns.write_answers.Given as goal

abbrev pub invariant-loop-at : goal.invariant-loop-at
invariant-loop-at g l = record {
  within : l.at ≤ length l.bytes;
  took : g.P.Peers.took l.peers ≡ then_onto (g.P.Peers.took l.fn.peers) (take l.at l.bytes);
  failures : g.P.Peers.write_failures l.peers ≡ g.P.Peers.write_failures l.fn.peers;
  came : g.P.Peers.came l.peers ≡ g.P.Peers.came l.fn.peers;
  accepts : g.P.Peers.accepts l.peers ≡ g.P.Peers.accepts l.fn.peers;
  reads : g.P.Peers.reads l.peers ≡ g.P.Peers.reads l.fn.peers;
  accept_failures : g.P.Peers.accept_failures l.peers ≡ g.P.Peers.accept_failures l.fn.peers;
}

abbrev pub decreases-loop-at : goal.decreases-loop-at
decreases-loop-at g l = length l.bytes - l.at
