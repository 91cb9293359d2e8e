use Rattle.std.proofs.Common.{◌≡◌, take, take_all, subst}
use Rattle.of_diff_report.proofs.RegionLemmas.{AreWhole, one_whole}
use Rattle.of_diff_report.proofs.region.all_match.Goals as goal

pub loop-region-preserved : goal.loop-region-preserved
loop-region-preserved c =
    one_whole c.args.fields.now c.args.regions.now c.loop-region.region-index c.region-item.result c.region-item.is c.loop-region-test.true (c.has_all.ensures c.if-not-has_all.false) c.loop-region.invariant

pub returns : goal.returns
returns c =
    let all : take c.loop-region.region-index c.args.regions.now ≡ c.args.regions.now = take_all c.loop-region.region-index c.args.regions.now c.loop-region-test.false in
    λ yes. subst (AreWhole c.args.fields.now) all c.loop-region.invariant
