use Rattle.std.proofs.Common.{None, refl, sym}
use Rattle.of_datapath.specs.{Datapath.world_of, Numbers.forwarding_of}
use Rattle.of_symbolic_run.{specs.Groups.IsGroupOf, proofs.GroupedLemmas.group_is, proofs.GroupedLemmas.if_ok}
use Rattle.of_symbolic_run.proofs.grouped.step_group.Goals as goal

pub returns-in_ok-lists-in-Some : goal.returns-in_ok-lists-in-Some
returns-in_ok-lists-in-Some g c =
    let w = world_of (forwarding_of c.args.datapath.now) in
    let is = group_is w c.args.group c.in-Some.chosen c.as_slice.result.now c.as_slice-in-Some.result.now (sym c.in-Some.ensures) c.as_slice.ensures.places (rw c.as_slice-in-Some.ensures.value c.in_ok-lists-in-Some.ensures.lists) in
    if_ok c.run_group-in-Some.result _ _ (λ f. f w is) c.run_group-in-Some.ensures

pub returns-in-None : goal.returns-in-None
returns-in-None g c =
    let w = world_of (forwarding_of c.args.datapath.now) in
    let none : IsGroupOf w c.args.group None = rw (sym c.in-None.ensures) refl in
    if_ok c.run_group.result _ _ (λ f. f w none) c.run_group.ensures
