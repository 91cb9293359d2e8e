use Rattle.std.{specs.List.Contains, proofs.Common.◌∙◌, proofs.Common.ap, proofs.Common.sym}
use Rattle.of_datapath.specs.{Datapath.world_of, Numbers.forwarding_of}
use Rattle.of_require.{specs.Requirements.is_leaving, proofs.ListLemmas.at_end, proofs.PacketLemmas.class_sought, proofs.PacketLemmas.none_leaves_there}
use Rattle.of_require.proofs.deciding.seek_in_class.Goals as goal

pub returns-then-not-is_leaving : goal.returns-then-not-is_leaving
returns-then-not-is_leaving g c = λ port places receives fits class one has.
    none_leaves_there (world_of (forwarding_of c.args.datapath.now)) c.args.requirement.now port fits c.args.class class one (ap (is_leaving c.args.requirement.now.demand) (sym c.deref.ensures) ∙ (sym c.is_leaving.ensures ∙ c.if-not-is_leaving.true))

pub returns : goal.returns
returns g c = λ port places receives fits class one has.
    let w = world_of (forwarding_of c.args.datapath.now) in
    let leaving = ap (is_leaving c.args.requirement.now.demand) (sym c.deref.ensures) ∙ (sym c.is_leaving.ensures ∙ c.if-not-is_leaving.false) in
    let there : Contains c.args.class.paths.items c.in-Some.path = rw c.in-Some.ensures.items (at_end c.pop.new.self.items c.in-Some.path) in
    class_sought w c.args.requirement.now c.args.fields.now c.args.steps port c.args.class.items.items leaving c.args.class.paths.items c.pop.new.self.items c.in-Some.path c.in-Some.ensures.items one c.in_ok-sought-in-Some.sought
    (c.in_ok-sought-in-Some.ensures port places receives fits (class.paths c.in-Some.path there) has)
