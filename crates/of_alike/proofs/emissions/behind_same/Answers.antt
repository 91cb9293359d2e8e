use Rattle.std.proofs.Common.{refl}
use Rattle.of_alike.proofs.EmittingLemmas.{behind_alike}
use Rattle.of_alike.proofs.emissions.behind_same.Goals as goal

pub returns-then-is_same_emission-clause-same : goal.returns-then-is_same_emission-clause-same
returns-then-is_same_emission-clause-same c =
    behind_alike c.args.a.now c.args.b.now c.in_ok-emission.behind.now c.in_ok-other.rest.now c.in_ok-emission.emission.now c.in_ok-other.other.now
    c.in_ok-emission.ensures.cases.0 c.in_ok-other.ensures.cases.0 (c.if-is_same_emission.ensures.same refl)
