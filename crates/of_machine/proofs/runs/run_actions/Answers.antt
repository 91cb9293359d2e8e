use Rattle.std.proofs.{Common.[], lemmas.List.append-nil, lemmas.Result.err_from_is_err_and}
use Rattle.of_machine.proofs.Reaching.{begins, begun, stays, whole_run, whole_front}
use Rattle.of_machine.proofs.Whole.{is_run, items_of, counts_of, lines_of, actions_fit, run_unfolds, actions_front, actions_run}
use Rattle.of_machine.{specs.Rows.acts, proofs.Promises.all_served, proofs.Promises.list_few, proofs.Moving.ends, proofs.Moving.left_nil, proofs.Growing.all_are_short, proofs.Growing.actions_low}
use Rattle.of_machine.proofs.runs.run_actions.Goals as goal

pub act_all_outside-requires-clause-served : goal.act_all_outside-requires-clause-served
act_all_outside-requires-clause-served g c =
    all_served c.args.actions.now c.requires.served

pub returns-in_err-act_all_outside-clause-err : goal.returns-in_err-act_all_outside-clause-err
returns-in_err-act_all_outside-clause-err g c =
    let p = err_from_is_err_and c.from_residual.result c.from_residual.ensures.1 in
    rw p.1 (whole_front (g.W.World.view c.args.world.now) g.S.StepLog.KEEPS c.args.packet (acts c.args.actions.now) (g.S.StepLog.list c.args.log.now) (g.S.StepLog.list c.act_all_outside.new.log) (c.in_err-act_all_outside.ensures.err [] [] (begins c.args.packet (acts c.args.actions.now) (g.S.StepLog.list c.args.log.now)) (rw (append-nil (acts c.args.actions.now), c.new-outcome.ensures.items, c.new-outcome.ensures.counts) (begun (g.W.World.view c.args.world.now) g.S.StepLog.KEEPS c.args.packet (acts c.args.actions.now) (g.S.StepLog.list c.args.log.now)))))

pub returns-in_err-step-clause-err : goal.returns-in_err-step-clause-err
returns-in_err-step-clause-err g c =
    let p = err_from_is_err_and c.from_residual-in_err-step.result c.from_residual-in_err-step.ensures.1 in
    rw p.1 (whole_front (g.W.World.view c.args.world.now) g.S.StepLog.KEEPS c.args.packet (acts c.args.actions.now) (g.S.StepLog.list c.args.log.now) (g.S.StepLog.list c.step.new.self) (stays (g.W.World.view c.args.world.now) g.S.StepLog.KEEPS _ (g.S.StepLog.list c.step.new.self) c.in_err-step.ensures.err (begins c.args.packet (acts c.args.actions.now) (g.S.StepLog.list c.args.log.now)) (c.in_ok-act_all_outside.ensures.ok [] [] (begins c.args.packet (acts c.args.actions.now) (g.S.StepLog.list c.args.log.now)) (rw (append-nil (acts c.args.actions.now), c.new-outcome.ensures.items, c.new-outcome.ensures.counts) (begun (g.W.World.view c.args.world.now) g.S.StepLog.KEEPS c.args.packet (acts c.args.actions.now) (g.S.StepLog.list c.args.log.now))))))

pub returns-clause-ok : goal.returns-clause-ok
returns-clause-ok g c =
    let done = rw (left_nil c.in_ok-act_all_outside.field-0) at (c.in_ok-act_all_outside.ensures.ok [] [] (begins c.args.packet (acts c.args.actions.now) (g.S.StepLog.list c.args.log.now)) (rw (append-nil (acts c.args.actions.now), c.new-outcome.ensures.items, c.new-outcome.ensures.counts) (begun (g.W.World.view c.args.world.now) g.S.StepLog.KEEPS c.args.packet (acts c.args.actions.now) (g.S.StepLog.list c.args.log.now)))) in
    is_run (g.W.World.view c.args.world.now) c.known.ensures g.S.StepLog.KEEPS c.args.packet (acts c.args.actions.now) c.act_all_outside.new.outcome (g.S.StepLog.list c.args.log.now) (g.S.StepLog.list c.step.new.self) (actions_fit (g.W.World.view c.args.world.now) c.known.ensures c.args.packet c.args.actions.now c.requires.empty)
    (whole_run (g.W.World.view c.args.world.now) g.S.StepLog.KEEPS c.args.packet (acts c.args.actions.now) c.act_all_outside.new.outcome (g.S.StepLog.list c.args.log.now) (g.S.StepLog.list c.step.new.self) (ends (g.W.World.view c.args.world.now) g.S.StepLog.KEEPS c.act_all_outside.new.packet [] [] c.act_all_outside.new.outcome (g.S.StepLog.list c.act_all_outside.new.log) (g.S.StepLog.list c.step.new.self) c.in_ok-step.ensures.ok (begins c.args.packet (acts c.args.actions.now) (g.S.StepLog.list c.args.log.now)) done))

pub returns-clause-items : goal.returns-clause-items
returns-clause-items g c =
    items_of (g.W.World.view c.args.world.now) g.S.StepLog.KEEPS c.args.packet (acts c.args.actions.now) c.act_all_outside.new.outcome (g.S.StepLog.list c.args.log.now) (g.S.StepLog.list c.step.new.self) (returns-clause-ok g c)

pub returns-clause-counts : goal.returns-clause-counts
returns-clause-counts g c =
    counts_of (g.W.World.view c.args.world.now) g.S.StepLog.KEEPS c.args.packet (acts c.args.actions.now) c.act_all_outside.new.outcome (g.S.StepLog.list c.args.log.now) (g.S.StepLog.list c.step.new.self) (returns-clause-ok g c)

pub returns-clause-lines : goal.returns-clause-lines
returns-clause-lines g c =
    lines_of (g.W.World.view c.args.world.now) g.S.StepLog.KEEPS c.args.packet (acts c.args.actions.now) c.act_all_outside.new.outcome (g.S.StepLog.list c.args.log.now) (g.S.StepLog.list c.step.new.self) (returns-clause-ok g c)

pub returns-clause-grown : goal.returns-clause-grown
returns-clause-grown g c =
    λ le. rw (returns-clause-items g c, run_unfolds (g.W.World.view c.args.world.now) c.args.packet (acts c.args.actions.now)) (all_are_short (g.W.World.view c.args.world.now) c.known.ensures _ _ c.args.packet (acts c.args.actions.now) (actions_fit (g.W.World.view c.args.world.now) c.known.ensures c.args.packet c.args.actions.now c.requires.empty) (actions_low (g.W.World.view c.args.world.now) c.known.ensures c.args.packet c.args.actions.now c.frame_is_known.ensures (list_few c.args.actions.now c.requires.served) le))

pub returns-in_err-act_all_outside-clause-bound : goal.returns-in_err-act_all_outside-clause-bound
returns-in_err-act_all_outside-clause-bound g c =
    actions_front (g.W.World.view c.args.world.now) c.known.ensures g.S.StepLog.KEEPS c.args.packet c.args.actions.now (g.S.StepLog.list c.args.log.now) (g.S.StepLog.list c.act_all_outside.new.log) c.requires.empty (list_few c.args.actions.now c.requires.served)
    (whole_front (g.W.World.view c.args.world.now) g.S.StepLog.KEEPS c.args.packet (acts c.args.actions.now) (g.S.StepLog.list c.args.log.now) (g.S.StepLog.list c.act_all_outside.new.log) (c.in_err-act_all_outside.ensures.err [] [] (begins c.args.packet (acts c.args.actions.now) (g.S.StepLog.list c.args.log.now)) (rw (append-nil (acts c.args.actions.now), c.new-outcome.ensures.items, c.new-outcome.ensures.counts) (begun (g.W.World.view c.args.world.now) g.S.StepLog.KEEPS c.args.packet (acts c.args.actions.now) (g.S.StepLog.list c.args.log.now)))))

pub returns-in_err-step-clause-bound : goal.returns-in_err-step-clause-bound
returns-in_err-step-clause-bound g c =
    actions_front (g.W.World.view c.args.world.now) c.known.ensures g.S.StepLog.KEEPS c.args.packet c.args.actions.now (g.S.StepLog.list c.args.log.now) (g.S.StepLog.list c.step.new.self) c.requires.empty (list_few c.args.actions.now c.requires.served)
    (whole_front (g.W.World.view c.args.world.now) g.S.StepLog.KEEPS c.args.packet (acts c.args.actions.now) (g.S.StepLog.list c.args.log.now) (g.S.StepLog.list c.step.new.self) (stays (g.W.World.view c.args.world.now) g.S.StepLog.KEEPS _ (g.S.StepLog.list c.step.new.self) c.in_err-step.ensures.err (begins c.args.packet (acts c.args.actions.now) (g.S.StepLog.list c.args.log.now)) (c.in_ok-act_all_outside.ensures.ok [] [] (begins c.args.packet (acts c.args.actions.now) (g.S.StepLog.list c.args.log.now)) (rw (append-nil (acts c.args.actions.now), c.new-outcome.ensures.items, c.new-outcome.ensures.counts) (begun (g.W.World.view c.args.world.now) g.S.StepLog.KEEPS c.args.packet (acts c.args.actions.now) (g.S.StepLog.list c.args.log.now))))))

pub returns-clause-bound : goal.returns-clause-bound
returns-clause-bound g c =
    actions_run (g.W.World.view c.args.world.now) c.known.ensures g.S.StepLog.KEEPS c.args.packet c.args.actions.now c.act_all_outside.new.outcome (g.S.StepLog.list c.args.log.now) (g.S.StepLog.list c.step.new.self) c.requires.empty (list_few c.args.actions.now c.requires.served) (returns-clause-ok g c)
