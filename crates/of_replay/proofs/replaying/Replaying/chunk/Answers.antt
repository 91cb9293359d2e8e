use Rattle.of_replay.proofs.{Early.grows_grows, WholeRuns.flushed}
use Rattle.of_replay.proofs.replaying.Replaying.chunk.Goals as goal
use Rattle.std.proofs.Common.{◌++◌}

pub returns-clause-goes : goal.returns-clause-goes
returns-clause-goes g c = λ begun bytes first w.
    let p = c.play_chunk.new.self in
    flushed begun g.T.RowPrinter.tale c.flush.result bytes (bytes ++ c.args.chunk.now) p.open p.number p.switch p.printer c.flush.new.self first (g.W.Sink.taken c.play_chunk.new.writer) (g.W.Sink.taken c.flush.new.writer)
    (c.in_ok-play_chunk.ensures.goes begun bytes first w) c.flush.ensures.all c.flush.ensures.front c.flush.ensures.write

pub returns-clause-grows : goal.returns-clause-grows
returns-clause-grows g c = grows_grows _ _ _ c.in_ok-play_chunk.ensures.grows c.flush.ensures.grows
