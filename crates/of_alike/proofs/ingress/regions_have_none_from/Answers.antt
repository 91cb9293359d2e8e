use Rattle.std.{specs.List.All, proofs.Common.subst, proofs.Common.take_all, proofs.lemmas.List.Elements.All-more}
use Rattle.of_alike.specs.IngressPorts.{HasNoneFrom}
use Rattle.of_alike.proofs.ingress.regions_have_none_from.Goals as goal

pub loop-region-preserved : goal.loop-region-preserved
loop-region-preserved c =
    All-more (HasNoneFrom c.args.lacks.now c.args.port) c.args.regions.now c.loop-region.region-index c.region-item.result c.loop-region-test.true c.loop-region.invariant (subst (HasNoneFrom c.args.lacks.now c.args.port) c.region-item.is (c.region_has_none_from.ensures c.if-not-region_has_none_from.false))

pub returns : goal.returns
returns c = λ yes. subst (All (HasNoneFrom c.args.lacks.now c.args.port)) (take_all c.loop-region.region-index c.args.regions.now c.loop-region-test.false) c.loop-region.invariant
