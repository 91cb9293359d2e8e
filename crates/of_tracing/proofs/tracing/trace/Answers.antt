use Rattle.std.proofs.Common.{refl}
use Rattle.of_datapath.specs.Datapath.{world_of}
use Rattle.of_machine.specs.Sound.{IsSound}
use Rattle.of_tracing.proofs.EncodedLemmas.{steps_encoded}
use Rattle.of_tracing.proofs.tracing.trace.Goals as goal

pub invariant_of-result : goal.invariant_of-result
invariant_of-result g c =
    let sound : IsSound (world_of c.args.switch.now.core.forwarding) = rw c.datapath.ensures c.known_world.ensures in
    record { encoded = rw (c.in_ok-effects.ensures.steps refl, c.new-log.ensures) (steps_encoded c.args.switch.now.core.forwarding sound c.args.port c.args.frame.now) }
