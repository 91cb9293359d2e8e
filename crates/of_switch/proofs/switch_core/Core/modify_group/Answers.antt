use Rattle.std.proofs.{Common.refl, lemmas.Result.err_from_is_err_and}
use Rattle.of_switch.{specs.Steps.group_modified, proofs.StandingSteps.group_put, proofs.GroupHandling.fault_told}
use Rattle.of_switch.proofs.switch_core.Core.modify_group.Goals as goal

pub returns-in_err-modify : goal.returns-in_err-modify
returns-in_err-modify g c =
    let p = err_from_is_err_and c.from_residual.result c.from_residual.ensures.1 in
    let a = c.args in
    rw (← c.self.view_is, p.1, p.2, c.in_err-modify.ensures.err) (fault_told c.in_err-modify.field-0.0 _ (group_modified a.id a.kind a.buckets a.self.now) _ _ c.in_err-modify.ensures.fault refl)

pub invariant_of-self-2 : goal.invariant_of-self-2
invariant_of-self-2 g c = group_put _ _ _ _ _ _ c.requires c.in_ok-modify.ensures.ok c.self.invariant
