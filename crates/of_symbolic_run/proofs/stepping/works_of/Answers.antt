use Rattle.of_symbolic_run.proofs.StepLemmas.{works_done, works_more}
use Rattle.of_symbolic_run.proofs.stepping.works_of.Goals as goal

pub loop-index-preserved : goal.loop-index-preserved
loop-index-preserved c = works_more c.args.actions.now c.loop-index.index c.served_at.result c.loop-index.works.items c.push.new.self.items c.served_at.ensures c.loop-index-test.true c.in_ok-push.ensures.items c.loop-index.invariant

pub returns : goal.returns
returns c = works_done c.args.actions.now c.loop-index.index c.loop-index.works.items c.loop-index-test.false c.loop-index.invariant
