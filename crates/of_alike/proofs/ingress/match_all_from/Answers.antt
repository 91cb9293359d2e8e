use Rattle.std.{specs.List.All, proofs.Common.subst, proofs.Common.take_all, proofs.lemmas.List.Elements.All-more}
use Rattle.of_alike.specs.IngressPorts.{MatchesAllFrom}
use Rattle.of_alike.proofs.ingress.match_all_from.Goals as goal

pub loop-condition-preserved : goal.loop-condition-preserved
loop-condition-preserved c =
    All-more (MatchesAllFrom c.args.region.now c.args.port) c.args.conditions.now c.loop-condition.condition-index _ c.loop-condition-test.true c.loop-condition.invariant (c.matches_all_from.ensures c.if-not-matches_all_from.false)

pub returns : goal.returns
returns c = λ yes. subst (All (MatchesAllFrom c.args.region.now c.args.port)) (take_all c.loop-condition.condition-index c.args.conditions.now c.loop-condition-test.false) c.loop-condition.invariant
