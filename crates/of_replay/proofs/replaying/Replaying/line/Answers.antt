use Rattle.std.proofs.lemmas.Result.{err_from_is_err_and}
use Rattle.of_replay.{specs.Rows.row_of_line, proofs.Lines.line_kept, proofs.Lines.line_flushed, proofs.Lines.line_unwritten}
use Rattle.of_replay.proofs.replaying.Replaying.line.Goals.{then-has_part+in_ok-flush, else-has_part}
use Rattle.of_replay.proofs.replaying.Replaying.line.Goals as goal

pub returns-in_err-flush-clause-goes : goal.returns-in_err-flush-clause-goes
returns-in_err-flush-clause-goes g c =
    let p = err_from_is_err_and c.from_residual-in_err-flush.result c.from_residual-in_err-flush.ensures.1 in
    rw (p.1, p.2, c.in_err-flush.ensures.write) (line_unwritten g.T.RowPrinter.tale (row_of_line c.args.self.now.open) c.args.self.now.number c.args.self.now.open c.args.self.now.switch c.tell.new.self.switch c.tell.new.self.switch c.args.self.now.printer c.tell.new.self.printer c.flush.new.self
    (g.W.Sink.taken c.args.writer.now) (g.W.Sink.taken c.flush.new.writer) c.in_ok-tell.ensures.tells c.in_err-flush.ensures.front)

pub returns-clause-goes : goal.returns-clause-goes
returns-clause-goes g c =
    elim c.if-has_part.branch [
      | then-has_part+in_ok-flush w ↦
          rw (w.self-is, w.writer-is) (line_flushed g.T.RowPrinter.tale (row_of_line c.args.self.now.open) c.args.self.now.number c.args.self.now.open c.args.self.now.switch c.tell.new.self.switch c.args.self.now.printer c.tell.new.self.printer w.flush.new.self
          (g.W.Sink.taken c.args.writer.now) (g.W.Sink.taken w.flush.new.writer) c.in_ok-tell.ensures.tells w.in_ok-flush.ensures.all.1 w.in_ok-flush.ensures.all.0)
      | else-has_part w ↦
          rw (w.self-is, w.writer-is) (line_kept g.T.RowPrinter.tale (row_of_line c.args.self.now.open) c.args.self.now.number c.args.self.now.open c.args.self.now.switch c.tell.new.self.switch c.args.self.now.printer c.tell.new.self.printer
          (g.W.Sink.taken c.args.writer.now) c.in_ok-tell.ensures.tells)
    ]
