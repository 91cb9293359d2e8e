use Rattle.std.proofs.Common.{◌∙◌}
use Rattle.of_live.proofs.Doing.{sent}
use Rattle.of_live.proofs.work.send_reports.Goals as goal

pub loop-report-preserved : goal.loop-report-preserved
loop-report-preserved g c = record {
  told = sent c.args.peers.now _ _ _ c.args.reports.now c.loop-report.report-index _ c.effects_of.result.now
      c.loop-report-test.true c.report-item.is c.loop-report.invariant.told c.effects_of.ensures c.send_effects.ensures.told;
  keeps = c.send_effects.ensures.keeps ∙ c.loop-report.invariant.keeps;
}
