use Rattle.of_lines.specs.declared.row.Row.TheVariants.{Do}
use Rattle.of_text.proofs.PushLemmas.{pushed}
use Rattle.of_text.proofs.flow.push_actions.Goals as goal

pub loop-action-preserved : goal.loop-action-preserved
loop-action-preserved c =
    pushed Do c.args.rows.now.items c.loop-action.rows.items c.push.new.self.items c.args.actions.now c.loop-action.action-index _ c.loop-action-test.true c.loop-action.invariant c.in_ok-push.ensures.items
