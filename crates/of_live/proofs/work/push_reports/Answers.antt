use Rattle.of_live.proofs.Doing.{pushed}
use Rattle.of_live.proofs.work.push_reports.Goals as goal

pub loop-report-preserved : goal.loop-report-preserved
loop-report-preserved c =
    pushed c.args.out.now c.loop-report.out c.push_answers.new.out c.args.reports.now c.loop-report.report-index _ c.effects_of.result.now
    c.loop-report-test.true c.report-item.is c.loop-report.invariant c.effects_of.ensures c.in_ok-push_answers.ensures
