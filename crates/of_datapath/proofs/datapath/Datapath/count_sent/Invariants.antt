use Rattle.std.proofs.Common.{◌≡◌, drop}
use Rattle.of_datapath.specs.{Datapath.all_sent, Numbers.forwarding_of}
use Rattle.of_datapath.proofs.datapath.Datapath.count_sent.Given as goal

abbrev pub invariant-loop-effect : goal.invariant-loop-effect
invariant-loop-effect g l = all_sent (drop l.effect-index l.effects) (forwarding_of l.self) ≡ all_sent l.effects (forwarding_of l.fn.self)
