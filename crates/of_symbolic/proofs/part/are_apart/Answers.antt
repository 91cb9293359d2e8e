use Rattle.std.proofs.Common.{◌≡◌, take, take_all, subst}
use Rattle.of_symbolic.proofs.PartLemmas.{AreApart, one_apart}
use Rattle.of_symbolic.proofs.part.are_apart.Goals as goal

pub loop-region-preserved : goal.loop-region-preserved
loop-region-preserved c =
    one_apart c.args.fields.now c.args.regions.now c.loop-region.region-index c.region-item.result c.region-item.is c.loop-region-test.true (c.is_apart_from.ensures c.if-not-is_apart_from.false) c.loop-region.invariant

pub returns : goal.returns
returns c =
    let all : take c.loop-region.region-index c.args.regions.now ≡ c.args.regions.now = take_all c.loop-region.region-index c.args.regions.now c.loop-region-test.false in
    λ yes. subst (AreApart c.args.fields.now) all c.loop-region.invariant
