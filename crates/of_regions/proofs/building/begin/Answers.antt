use Rattle.std.proofs.Common.{ℕ, ap, subst}
use Rattle.of_layers.specs.Fields.{ones_of}
use Rattle.of_regions.{specs.Joining.Joined, proofs.BuildingLemmas.here, proofs.BuildingLemmas.known_within, proofs.BuildingLemmas.others_same}
use Rattle.of_regions.proofs.building.begin.Goals as goal

pub with-requires-clause-within : goal.with-requires-clause-within
with-requires-clause-within c =
    let joined : Joined (ones_of c.args.field) c.args.rule c.args.mask c.args.asked c.in_ok-bits.bits
    = subst (λ (n : ℕ). Joined n c.args.rule c.args.mask c.args.asked c.in_ok-bits.bits) (ap (λ r. r.ones) c.row.ensures.row) c.in_ok-bits.ensures.some in
    known_within (ones_of c.args.field) c.args.rule c.in_ok-bits.bits.mask c.in_ok-bits.bits.known joined.is

pub returns-clause-joined : goal.returns-clause-joined
returns-clause-joined c =
    let joined : Joined (ones_of c.args.field) c.args.rule c.args.mask c.args.asked c.in_ok-bits.bits
    = subst (λ (n : ℕ). Joined n c.args.rule c.args.mask c.args.asked c.in_ok-bits.bits) (ap (λ r. r.ones) c.row.ensures.row) c.in_ok-bits.ensures.some in
    subst (Joined (ones_of c.args.field) c.args.rule c.args.mask c.args.asked) (here c.args.fields c.with.result c.args.field c.in_ok-bits.bits c.with.ensures.masks c.with.ensures.known) joined

pub returns-clause-others : goal.returns-clause-others
returns-clause-others c = others_same c.args.fields c.with.result c.args.field c.in_ok-bits.bits c.with.ensures.masks c.with.ensures.known
