use Rattle.std.proofs.{Common.refl, lemmas.Result.err_from_is_err_and}
use Rattle.of_switch.{specs.Steps.group_added, proofs.StandingSteps.group_put, proofs.GroupHandling.fault_or_memory}
use Rattle.of_switch.proofs.switch_core.Core.add_group.Goals as goal

pub returns-in_err-add : goal.returns-in_err-add
returns-in_err-add g c =
    let p = err_from_is_err_and c.from_residual.result c.from_residual.ensures.1 in
    let fault = rw c.latest-now.ensures at c.in_err-add.ensures.fault in
    let a = c.args in
    rw (← c.self.view_is, p.1, p.2, c.in_err-add.ensures.err) (fault_or_memory (Unit {0}) c.in_err-add.field-0.0 _ (group_added a.id a.kind a.buckets a.self.now) _ _ fault refl)

pub invariant_of-self-2 : goal.invariant_of-self-2
invariant_of-self-2 g c = group_put _ _ _ _ _ _ c.requires c.in_ok-add.ensures.ok c.self.invariant
