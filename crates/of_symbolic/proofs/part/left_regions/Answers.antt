use Rattle.of_symbolic.proofs.{PartLemmas.one_dropped, PartLemmas.one_left, part.left_regions.Goals.then-not-is_whole_in+in_ok-push, part.left_regions.Goals.else-not-is_whole_in}
use Rattle.of_symbolic.proofs.part.left_regions.Goals as goal

pub loop-region-preserved : goal.loop-region-preserved
loop-region-preserved c =
    let m = c.args.fields.now in
    let regions = c.args.regions.now in
    elim c.if-not-is_whole_in.branch [
      | then-not-is_whole_in+in_ok-push w ↦
          rw (w.left-is, w.in_ok-push.ensures.items) (one_left m regions c.loop-region.region-index c.region-item.result c.loop-region.left.items c.region-item.is c.loop-region-test.true c.loop-region.invariant)
      | else-not-is_whole_in w ↦
          rw w.left-is (one_dropped m regions c.loop-region.region-index c.region-item.result c.loop-region.left.items c.region-item.is c.loop-region-test.true (c.is_whole_in.ensures w.if-not-is_whole_in.false) c.loop-region.invariant)
    ]
