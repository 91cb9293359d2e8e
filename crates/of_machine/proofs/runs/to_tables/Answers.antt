use Rattle.std.proofs.{Common.◌∷◌, lemmas.Result.on_ok_weaker, lemmas.Result.on_err_weaker}
use Rattle.of_machine.{specs.Rows.task, proofs.Moving.dispatches, proofs.Moving.fresh_is}
use Rattle.of_machine.proofs.runs.to_tables.Goals as goal

pub returns-clause-ok : goal.returns-clause-ok
returns-clause-ok g c =
    let fresh = fresh_is c.args.packet.now c.copy_without_actions-copy.result c.copy_without_actions-copy.ensures in
    on_ok_weaker c.pipeline.result (λ m rest others start h. m (task c.args.packet.now rest ∷ others) start (rw fresh (dispatches (g.W.World.view c.args.world.now) g.S.StepLog.KEEPS c.args.packet.now rest others c.args.outcome.now (g.S.StepLog.list c.args.log.now) (g.S.StepLog.list c.step.new.self) c.args.action c.requires.table c.in_ok-step.ensures.ok start h))) c.pipeline.ensures.ok

pub returns-clause-err : goal.returns-clause-err
returns-clause-err g c =
    let fresh = fresh_is c.args.packet.now c.copy_without_actions-copy.result c.copy_without_actions-copy.ensures in
    on_err_weaker c.pipeline.result (λ m rest others start h. m (task c.args.packet.now rest ∷ others) start (rw fresh (dispatches (g.W.World.view c.args.world.now) g.S.StepLog.KEEPS c.args.packet.now rest others c.args.outcome.now (g.S.StepLog.list c.args.log.now) (g.S.StepLog.list c.step.new.self) c.args.action c.requires.table c.in_ok-step.ensures.ok start h))) c.pipeline.ensures.err
