use Rattle.of_lines.specs.declared.row.Row.TheVariants.{Match}
use Rattle.of_text.proofs.PushLemmas.{pushed}
use Rattle.of_text.proofs.flow.push_fields.Goals as goal

pub loop-e-preserved : goal.loop-e-preserved
loop-e-preserved c = pushed Match c.args.rows.now.items c.loop-e.rows.items c.push.new.self.items c.args.fields.now c.loop-e.e-index _ c.loop-e-test.true c.loop-e.invariant c.in_ok-push.ensures.items
