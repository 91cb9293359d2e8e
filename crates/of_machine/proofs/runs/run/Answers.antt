use Rattle.std.proofs.{Common.◌∷◌, Common.[], lemmas.Result.err_from_is_err_and}
use Rattle.of_machine.proofs.Whole.{is_run, items_of, counts_of, lines_of, frame_fits, run_unfolds, frame_front, frame_run}
use Rattle.of_machine.{specs.Rows.Lookup, proofs.Reaching.begins, proofs.Reaching.begun, proofs.Reaching.whole_run, proofs.Reaching.whole_front}
use Rattle.of_machine.proofs.Growing.{all_are_short, frame_low}
use Rattle.of_machine.proofs.runs.run.Goals as goal

pub returns-in_err-pipeline-clause-err : goal.returns-in_err-pipeline-clause-err
returns-in_err-pipeline-clause-err g c =
    let p = err_from_is_err_and c.from_residual.result c.from_residual.ensures.1 in
    rw p.1 (whole_front (g.W.World.view c.args.world.now) g.S.StepLog.KEEPS c.args.packet (Lookup 0 ∷ []) (g.S.StepLog.list c.args.log.now) (g.S.StepLog.list c.pipeline.new.log) (c.in_err-pipeline.ensures.err [] (begins c.args.packet (Lookup 0 ∷ []) (g.S.StepLog.list c.args.log.now)) (rw (c.new-outcome.ensures.items, c.new-outcome.ensures.counts) (begun (g.W.World.view c.args.world.now) g.S.StepLog.KEEPS c.args.packet (Lookup 0 ∷ []) (g.S.StepLog.list c.args.log.now)))))

pub returns-clause-ok : goal.returns-clause-ok
returns-clause-ok g c =
    is_run (g.W.World.view c.args.world.now) c.known.ensures g.S.StepLog.KEEPS c.args.packet (Lookup 0 ∷ []) c.pipeline.new.outcome (g.S.StepLog.list c.args.log.now) (g.S.StepLog.list c.pipeline.new.log) (frame_fits (g.W.World.view c.args.world.now) c.known.ensures c.args.packet c.requires)
    (whole_run (g.W.World.view c.args.world.now) g.S.StepLog.KEEPS c.args.packet (Lookup 0 ∷ []) c.pipeline.new.outcome (g.S.StepLog.list c.args.log.now) (g.S.StepLog.list c.pipeline.new.log) (c.in_ok-pipeline.ensures.ok [] (begins c.args.packet (Lookup 0 ∷ []) (g.S.StepLog.list c.args.log.now)) (rw (c.new-outcome.ensures.items, c.new-outcome.ensures.counts) (begun (g.W.World.view c.args.world.now) g.S.StepLog.KEEPS c.args.packet (Lookup 0 ∷ []) (g.S.StepLog.list c.args.log.now)))))

pub returns-clause-items : goal.returns-clause-items
returns-clause-items g c =
    items_of (g.W.World.view c.args.world.now) g.S.StepLog.KEEPS c.args.packet (Lookup 0 ∷ []) c.pipeline.new.outcome (g.S.StepLog.list c.args.log.now) (g.S.StepLog.list c.pipeline.new.log) (returns-clause-ok g c)

pub returns-clause-counts : goal.returns-clause-counts
returns-clause-counts g c =
    counts_of (g.W.World.view c.args.world.now) g.S.StepLog.KEEPS c.args.packet (Lookup 0 ∷ []) c.pipeline.new.outcome (g.S.StepLog.list c.args.log.now) (g.S.StepLog.list c.pipeline.new.log) (returns-clause-ok g c)

pub returns-clause-lines : goal.returns-clause-lines
returns-clause-lines g c =
    lines_of (g.W.World.view c.args.world.now) g.S.StepLog.KEEPS c.args.packet (Lookup 0 ∷ []) c.pipeline.new.outcome (g.S.StepLog.list c.args.log.now) (g.S.StepLog.list c.pipeline.new.log) (returns-clause-ok g c)

pub returns-clause-grown : goal.returns-clause-grown
returns-clause-grown g c =
    λ le. rw (returns-clause-items g c, run_unfolds (g.W.World.view c.args.world.now) c.args.packet (Lookup 0 ∷ [])) (all_are_short (g.W.World.view c.args.world.now) c.known.ensures _ _ c.args.packet (Lookup 0 ∷ []) (frame_fits (g.W.World.view c.args.world.now) c.known.ensures c.args.packet c.requires) (frame_low (g.W.World.view c.args.world.now) c.known.ensures c.args.packet c.frame_is_known.ensures le))

pub returns-in_err-pipeline-clause-bound : goal.returns-in_err-pipeline-clause-bound
returns-in_err-pipeline-clause-bound g c =
    frame_front (g.W.World.view c.args.world.now) c.known.ensures g.S.StepLog.KEEPS c.args.packet (g.S.StepLog.list c.args.log.now) (g.S.StepLog.list c.pipeline.new.log) c.requires
    (whole_front (g.W.World.view c.args.world.now) g.S.StepLog.KEEPS c.args.packet (Lookup 0 ∷ []) (g.S.StepLog.list c.args.log.now) (g.S.StepLog.list c.pipeline.new.log) (c.in_err-pipeline.ensures.err [] (begins c.args.packet (Lookup 0 ∷ []) (g.S.StepLog.list c.args.log.now)) (rw (c.new-outcome.ensures.items, c.new-outcome.ensures.counts) (begun (g.W.World.view c.args.world.now) g.S.StepLog.KEEPS c.args.packet (Lookup 0 ∷ []) (g.S.StepLog.list c.args.log.now)))))

pub returns-clause-bound : goal.returns-clause-bound
returns-clause-bound g c =
    frame_run (g.W.World.view c.args.world.now) c.known.ensures g.S.StepLog.KEEPS c.args.packet c.pipeline.new.outcome (g.S.StepLog.list c.args.log.now) (g.S.StepLog.list c.pipeline.new.log) c.requires (returns-clause-ok g c)
