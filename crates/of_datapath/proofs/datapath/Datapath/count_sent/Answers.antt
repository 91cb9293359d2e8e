use Rattle.of_datapath.proofs.Tallying.{sent_more}
use Rattle.of_datapath.proofs.datapath.Datapath.count_sent.Goals as goal

pub loop-effect-preserved : goal.loop-effect-preserved
loop-effect-preserved g c = sent_more c.args.effects.now c.loop-effect.effect-index _ c.effect-item.result _ _ _ c.loop-effect-test.true c.effect-item.is c.loop-effect.invariant c.count_effect.ensures
