use Rattle.std.proofs.lemmas.Result.{err_from_is_err_and}
use Rattle.of_replay.proofs.{Early.early_more, WholeRuns.tells_unwritten, WholeRuns.tells_wrote, WholeRuns.not_write}
use Rattle.of_replay.proofs.replaying.Replaying.play.Goals as goal

pub returns-in_err-flush-clause-plays : goal.returns-in_err-flush-clause-plays
returns-in_err-flush-clause-plays g c =
    let p = err_from_is_err_and c.from_residual.result c.from_residual.ensures.1 in
    let read = c.read-played in
    rw (p.1, p.2, c.in_err-flush.ensures.write) (tells_unwritten c.args.self.now.switch g.T.RowPrinter.tale read.result (g.S.Source.answers c.args.reader.now) (g.S.Source.answers read.new.reader) (g.S.Source.ends c.args.reader.now) (g.S.Source.ends read.new.reader) read.new.self.printer
    (g.W.Sink.taken c.args.writer.now) (g.W.Sink.taken read.new.writer) (g.W.Sink.taken c.flush.new.writer) read.ensures.plays (not_write read.result (g.W.Sink.failures read.new.writer) read.ensures.writes c.in_err-flush.ensures.before) c.in_err-flush.ensures.front)

pub returns-clause-plays : goal.returns-clause-plays
returns-clause-plays g c =
    let read = c.read-played in
    tells_wrote c.args.self.now.switch g.T.RowPrinter.tale read.result (g.S.Source.answers c.args.reader.now) (g.S.Source.answers read.new.reader) (g.S.Source.ends c.args.reader.now) (g.S.Source.ends read.new.reader) read.new.self.printer
    (g.W.Sink.taken c.args.writer.now) (g.W.Sink.taken read.new.writer) (g.W.Sink.taken c.flush.new.writer) read.ensures.plays (not_write read.result (g.W.Sink.failures read.new.writer) read.ensures.writes c.in_ok-flush.ensures.before) c.in_ok-flush.ensures.all.0

pub returns-in_err-flush-clause-early : goal.returns-in_err-flush-clause-early
returns-in_err-flush-clause-early g c = early_more _ _ _ _ _ _ c.read-played.ensures.early c.in_err-flush.ensures.grows

pub returns-clause-early : goal.returns-clause-early
returns-clause-early g c = early_more _ _ _ _ _ _ c.read-played.ensures.early c.in_ok-flush.ensures.grows
