use Rattle.of_datapath.specs.{Datapath.world_of, Numbers.forwarding_of}
use Rattle.of_symbolic_run.proofs.ReceivedLemmas.{fewer_received}
use Rattle.of_diff.proofs.GatheringLemmas.{shown_in_more}
use Rattle.of_diff.proofs.ending.try_frame_with.Goals as goal

pub returns-in-Shown : goal.returns-in-Shown
returns-in-Shown g c =
    shown_in_more c.args.compared (world_of (forwarding_of c.args.first.now)) (world_of (forwarding_of c.args.second.now)) _ c.args.frames.now c.in_ok-some.some c.in-Shown.shown c.in_ok-some.ensures
    (rw c.in-Shown.is at c.in_ok-shown.ensures)

pub try_frame-requires-clause-received : goal.try_frame-requires-clause-received
try_frame-requires-clause-received g c = fewer_received (world_of (forwarding_of c.args.first.now)).ports c.args.frames.now c.in_ok-some.some (λ frame port h. (c.in_ok-some.ensures.within frame port h).0) c.requires.received
