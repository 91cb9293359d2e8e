use Rattle.std.proofs.Common.{refl}
use Rattle.of_machine.specs.Rows.{entering}
use Rattle.of_datapath.specs.{Datapath.world_of, Numbers.forwarding_of}
use Rattle.of_tracing.proofs.EncodedLemmas.{run_encoded}
use Rattle.of_history.proofs.fate.run_frame.Goals as goal

pub invariant_of-result : goal.invariant_of-result
invariant_of-result g c =
    record { encoded = rw (c.in_ok-items.ensures.steps refl, c.new-log.ensures) (run_encoded (world_of (forwarding_of c.datapath-datapath.result.now)) c.known_world.ensures (entering c.args.frame.now c.args.port) refl) }
