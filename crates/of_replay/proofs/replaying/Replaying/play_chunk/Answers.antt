use Rattle.std.proofs.{Common.◌++◌, Common.drop, Common.arith, lemmas.Result.err_from_is_err_and}
use Rattle.of_replay.proofs.Lines.{chunk_begun, within_waits, chunk_over, chunk_place, chunk_line, chunk_halts}
use Rattle.of_replay.proofs.Early.{grows_none, grows_grows}
use Rattle.of_replay.proofs.replaying.Replaying.play_chunk.Goals as goal

pub loop-len-init : goal.loop-len-init
loop-len-init g c = record {
  place = omega arith;
  few = omega arith;
  failures = c.requires.well;
  grows = grows_none _;
  within = λ begun bytes first w. chunk_begun begun g.T.RowPrinter.tale bytes c.args.chunk.now c.args.self.now.open c.args.self.now.number c.args.self.now.switch c.args.self.now.printer first (g.W.Sink.taken c.args.writer.now) w;
}

pub returns-in_default-clause-goes : goal.returns-in_default-clause-goes
returns-in_default-clause-goes g c = λ begun bytes first w.
    let l = c.loop-len in
    chunk_over begun g.T.RowPrinter.tale c.keep.result bytes (bytes ++ c.args.chunk.now) (drop l.at c.args.chunk.now) c.rest_from-rest.result.now l.self.open c.keep.new.self.open l.self.number c.keep.new.self.number l.self.switch c.keep.new.self.switch l.self.printer c.keep.new.self.printer
    first (g.W.Sink.taken l.writer) (l.invariant.within begun bytes first w) c.in_default.ensures c.rest_from-rest.ensures c.keep.ensures.open c.keep.ensures.memory c.keep.ensures.kept

pub returns-in_err-keep-clause-goes : goal.returns-in_err-keep-clause-goes
returns-in_err-keep-clause-goes g c = λ begun bytes first w.
    let l = c.loop-len in
    let p = err_from_is_err_and c.from_residual.result c.from_residual.ensures.1 in
    rw (p.1, p.2, c.in_err-keep.ensures.memory) (within_waits begun g.T.RowPrinter.tale bytes (bytes ++ c.args.chunk.now) (drop l.at c.args.chunk.now) l.self.open l.self.number l.self.switch l.self.printer c.keep-in-loop-len.new.self.printer
    first (g.W.Sink.taken l.writer) (l.invariant.within begun bytes first w) c.in_err-keep.ensures.kept.2)

pub returns-in_err-line-clause-goes : goal.returns-in_err-line-clause-goes
returns-in_err-line-clause-goes g c = λ begun bytes first w.
    let l = c.loop-len in
    let k = c.keep-in-loop-len.new.self in
    let p = err_from_is_err_and c.from_residual-in_err-line.result c.from_residual-in_err-line.ensures.1 in
    rw (p.1, p.2) (chunk_halts begun g.T.RowPrinter.tale c.in_err-line.field-0.0 bytes (bytes ++ c.args.chunk.now) c.args.chunk.now c.rest_from-rest.result.now c.front_of.result.now l.self.open k.open l.at c.in-Some.len l.self.number k.number l.self.switch k.switch c.line.new.self.switch
    l.self.printer k.printer c.line.new.self.printer first (g.W.Sink.taken l.writer) (g.W.Sink.taken c.line.new.writer) (l.invariant.within begun bytes first w)
    c.rest_from-rest.ensures c.in-Some.ensures c.front_of.ensures c.in_ok-keep.ensures.open c.in_ok-keep.ensures.kept c.in_err-line.ensures.goes)

pub loop-len-preserved : goal.loop-len-preserved
loop-len-preserved g c =
    let l = c.loop-len in
    let k = c.keep-in-loop-len.new.self in
    record {
      place = chunk_place c.args.chunk.now c.rest_from-rest.result.now l.at c.in-Some.len l.invariant.place c.rest_from-rest.ensures c.in-Some.ensures;
      few = omega (arith, l.invariant.few, c.in_ok-line.ensures.number, c.in_ok-keep.ensures.kept.0);
      failures = c.in_ok-line.ensures.writes;
      grows = grows_grows _ _ _ l.invariant.grows c.in_ok-line.ensures.grows;
      within = λ begun bytes first w.
          chunk_line begun g.T.RowPrinter.tale bytes (bytes ++ c.args.chunk.now) c.args.chunk.now c.rest_from-rest.result.now c.front_of.result.now l.self.open k.open c.line.new.self.open l.at c.in-Some.len l.self.number k.number c.line.new.self.number l.self.switch k.switch c.line.new.self.switch
          l.self.printer k.printer c.line.new.self.printer first (g.W.Sink.taken l.writer) (g.W.Sink.taken c.line.new.writer) (l.invariant.within begun bytes first w)
          c.rest_from-rest.ensures c.in-Some.ensures c.front_of.ensures c.in_ok-keep.ensures.open c.in_ok-keep.ensures.kept c.in_ok-line.ensures.goes c.in_ok-line.ensures.open c.in_ok-line.ensures.number;
    }

pub returns-in_err-line-clause-grows : goal.returns-in_err-line-clause-grows
returns-in_err-line-clause-grows g c = grows_grows _ _ _ c.loop-len.invariant.grows c.in_err-line.ensures.grows
