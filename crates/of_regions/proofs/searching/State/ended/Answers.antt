use Rattle.std.proofs.Common.{subst}
use Rattle.of_regions.{specs.Searching.IsState, proofs.SearchLemmas.none_received, proofs.SearchLemmas.taking}
use Rattle.of_regions.proofs.searching.State.ended.Goals as goal

pub returns-clause-found : goal.returns-clause-found
returns-clause-found c start rivals steps s empty =
    taking start rivals c.args.self.names.items c.args.self.rests.items empty (subst (λ u. IsState start rivals c.args.self.rests.items c.args.self.names.items u) c.in-None.is s)

-- beside it, what was kept
pub returns-in-Some-clause-found : goal.returns-in-Some-clause-found
returns-in-Some-clause-found c start rivals steps s empty =
    let kept = subst (λ u. IsState start rivals c.args.self.rests.items c.args.self.names.items u) c.in-Some.is s in
    record { is = kept.kept; none = none_received start rivals c.args.self.names.items c.args.self.rests.items _ empty s }
