use Rattle.of_datapath.specs.{Datapath.world_of, Numbers.forwarding_of}
use Rattle.of_symbolic_run.proofs.GroupedLemmas.{more_so_far}
use Rattle.of_symbolic_run.proofs.grouped.bucket_lists_at.Goals as goal

pub loop-place-preserved : goal.loop-place-preserved
loop-place-preserved g c =
    more_so_far (world_of (forwarding_of c.args.datapath.now)) c.args.group c.args.places.now c.loop-place.place-index _ c.loop-place.lists.items c.push.new.self.items c.bucket_actions.result
    c.loop-place-test.true c.in_ok-push.ensures.items c.bucket_actions.ensures c.loop-place.invariant
