use Rattle.std.proofs.{Common.◌∷◌, Common.[], lemmas.Result.err_from_is_err_and, lemmas.Result.on_err_weaker}
use Rattle.of_machine.{specs.Rows.task, specs.Runs.point, proofs.Promises.all_are_below, proofs.Reaching.stays, proofs.Moving.ends}
use Rattle.of_machine.proofs.tables.pipeline.Goals as goal

pub run_set-requires-clause-below : goal.run_set-requires-clause-below
run_set-requires-clause-below g c =
    rw (c.in_ok-next.ensures.kept, c.loop-next.invariant.kept) (all_are_below (g.W.World.view c.args.world.now) c.look_up.new.packet.action_set c.requires)

pub returns-in_err-next-clause-err : goal.returns-in_err-next-clause-err
returns-in_err-next-clause-err g c =
    let p = err_from_is_err_and c.from_residual.result c.from_residual.ensures.1 in
    let failed = rw c.loop-next.invariant.kept at c.in_err-next.ensures.err in
    rw p.1 (λ others start h. failed others start (c.loop-next.invariant.so_far others start h))

pub returns-in-Set-clause-err : goal.returns-in-Set-clause-err
returns-in-Set-clause-err g c =
    let failed = rw (c.in_ok-next.ensures.kept, c.loop-next.invariant.kept) at c.run_set.ensures.err in
    let moved = rw (c.loop-next.invariant.kept, c.in-Set.is) at c.in_ok-next.ensures.ok in
    on_err_weaker c.run_set.result (λ m others start h. m [] others start (moved others start (c.loop-next.invariant.so_far others start h))) failed

pub returns-in_err-step-in-Ended-clause-err : goal.returns-in_err-step-in-Ended-clause-err
returns-in_err-step-in-Ended-clause-err g c =
    let p = err_from_is_err_and c.from_residual-in_err-step-in-Ended.result c.from_residual-in_err-step-in-Ended.ensures.1 in
    let moved = rw (c.loop-next.invariant.kept, c.in-Ended.is) at c.in_ok-next.ensures.ok in
    rw p.1 (λ others start h. stays (g.W.World.view c.args.world.now) g.S.StepLog.KEEPS (point (task c.look_up.new.packet [] ∷ others) c.look_up.new.outcome (g.S.StepLog.list c.look_up.new.log)) (g.S.StepLog.list c.step.new.self) c.in_err-step-in-Ended.ensures.err start (moved others start (c.loop-next.invariant.so_far others start h)))

pub returns-in-Ended-clause-ok : goal.returns-in-Ended-clause-ok
returns-in-Ended-clause-ok g c =
    let moved = rw (c.loop-next.invariant.kept, c.in-Ended.is) at c.in_ok-next.ensures.ok in
    λ others start h. ends (g.W.World.view c.args.world.now) g.S.StepLog.KEEPS c.look_up.new.packet [] others c.look_up.new.outcome (g.S.StepLog.list c.look_up.new.log) (g.S.StepLog.list c.step.new.self) c.in_ok-step-in-Ended.ensures.ok start (moved others start (c.loop-next.invariant.so_far others start h))
