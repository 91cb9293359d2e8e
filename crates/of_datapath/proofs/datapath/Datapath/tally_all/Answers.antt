use Rattle.std.proofs.Common.{◌∙◌, refl}
use Rattle.of_datapath.proofs.Tallying.{tallied_more}
use Rattle.of_datapath.proofs.datapath.Datapath.tally_all.Goals as goal

pub loop-count-preserved : goal.loop-count-preserved
loop-count-preserved g c = record {
  numbers = c.tally.ensures.numbers ∙ c.loop-count.invariant.numbers;
  so_far = tallied_more c.args.self.now.tables c.loop-count.self.tables c.args.counts.now c.loop-count.count-index _ _ _ _ _ c.loop-count-test.true refl c.loop-count.invariant.numbers c.loop-count.invariant.so_far c.tally.ensures.forwarding;
}
