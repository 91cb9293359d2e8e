use Rattle.of_symbolic_run.proofs.RunLemmas.{one_copied}
use Rattle.of_symbolic_run.proofs.copying.copied_tasks.Goals as goal

pub loop-task-preserved : goal.loop-task-preserved
loop-task-preserved c = rw c.in_ok-push.ensures.items
    (one_copied c.args.tasks.now c.loop-task.task-index c.task-item.result c.loop-task.copies.items c.in_ok-copy.field-0 c.task-item.is c.loop-task-test.true c.loop-task.invariant c.in_ok-copy.ensures)
