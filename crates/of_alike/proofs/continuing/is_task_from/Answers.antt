use Rattle.std.proofs.Common.{[], subst, map}
use Rattle.of_action_set.specs.Sets.{with_actions}
use Rattle.of_symbolic_run.specs.States.{work_for}
use Rattle.of_alike.{specs.Agreeing.AreNoTable, specs.Agreeing.WorkFrom, proofs.Agreeing.set_with_all, proofs.AgreeingRuns.all_no_table}
use Rattle.of_alike.proofs.continuing.is_task_from.Goals as goal

pub returns : goal.returns
returns c = λ e frame port. record {
  set = subst (λ l. AreNoTable (with_actions [] l)) c.as_slice.ensures.actions (set_with_all [] c.as_slice.result.now tt (all_no_table c.as_slice.result.now c.as_slice.ensures.served));
  work = subst (λ l. WorkFrom c.args.table (map work_for l)) c.deref.ensures.value (c.are_works_from.ensures e);
}
