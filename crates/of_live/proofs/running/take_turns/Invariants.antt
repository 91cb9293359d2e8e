use Rattle.std.proofs.Common.{◌≡◌, length}
use Rattle.of_live.proofs.Ending.{SoFar}
use Rattle.of_live.proofs.running.take_turns.Given as goal

abbrev pub invariant-loop : goal.invariant-loop
invariant-loop g l = record {
  so_far : SoFar l.counter (g.N.Network.keeps l.fn.network) l.fn.live l.live (g.N.Network.told l.fn.network) (g.N.Network.told l.network);
  keeps : g.N.Network.keeps l.network ≡ g.N.Network.keeps l.fn.network;
  room : length l.buffer ≡ 65536;
}
