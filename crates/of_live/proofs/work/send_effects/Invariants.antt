use Rattle.std.{specs.List.flat_map, proofs.Common.◌≡◌, proofs.Common.take}
use Rattle.of_live.specs.{Acts.Records, Turns.sent_in}
use Rattle.of_live.proofs.work.send_effects.Given as goal

abbrev pub invariant-loop-effect : goal.invariant-loop-effect
invariant-loop-effect g l = record {
  told : Records (g.N.Network.told l.initial.network) (flat_map (sent_in l.peers) (take l.effect-index l.effects)) (g.N.Network.told l.network);
  keeps : g.N.Network.keeps l.network ≡ g.N.Network.keeps l.initial.network;
}
