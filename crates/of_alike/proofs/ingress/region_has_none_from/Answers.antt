use Rattle.std.proofs.Common.{refl}
use Rattle.of_alike.proofs.IngressPortLemmas.{away_from}
use Rattle.of_alike.proofs.ingress.region_has_none_from.Goals as goal

pub returns-then-never_matches : goal.returns-then-never_matches
returns-then-never_matches c = λ yes. away_from c.args.lacks.now c.args.region.now c.args.port c.ingress_condition.result c.ranges.port.fits c.ingress_condition.ensures.is (c.if-never_matches.ensures refl)
