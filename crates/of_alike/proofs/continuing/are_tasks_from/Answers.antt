use Rattle.std.proofs.{Common.refl, Common.subst, Common.sym, lemmas.List.drop_all}
use Rattle.of_alike.specs.Agreeing.{StayFrom}
use Rattle.of_symbolic_run.proofs.Pairing.{at_index}
use Rattle.of_alike.proofs.continuing.are_tasks_from.Goals as goal

pub loop-task-preserved : goal.loop-task-preserved
loop-task-preserved c = λ h.
    c.loop-task.invariant (subst (StayFrom c.args.table) (sym (at_index c.args.tasks.now c.loop-task.task-index c.task-item.result c.loop-task-test.true c.task-item.is)) (λ frame port. (c.if-not-is_task_from.ensures refl frame port, h frame port)))

pub returns : goal.returns
returns c = λ e. c.loop-task.invariant (subst (StayFrom c.args.table) (sym (drop_all c.loop-task.task-index c.args.tasks.now c.loop-task-test.false)) (λ frame port. tt))
