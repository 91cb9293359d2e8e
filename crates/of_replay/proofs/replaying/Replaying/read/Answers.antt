use Rattle.std.proofs.Common.{◌≡◌, arith, refl, length, take}
use Rattle.std.proofs.lemmas.Result.{err_from_is_err_and}
use Rattle.of_replay.proofs.WholeRuns.{read_begun, read_idle, read_chunk, read_halts, read_ends, read_played, read_stops, chunk_size, chunk_reads}
use Rattle.of_replay.{specs.Told.Gave, specs.Told.Ended, specs.Told.Failed, specs.Told.given, proofs.TellingLemmas.gave_front}
use Rattle.of_replay.proofs.Early.{early_none, early_read, grows_none}
use Rattle.of_replay.proofs.replaying.Replaying.read.Goals as goal

pub loop-init : goal.loop-init
loop-init g c = record {
  reads = c.requires.fresh;
  ends = refl;
  failures = refl;
  number = omega (arith, c.requires.start.1);
  writes = c.requires.well;
  written = c.requires.start.2;
  early = early_none _ _ _ refl;
  so_far = read_begun c.args.self.now.switch g.T.RowPrinter.tale (g.S.Source.answers c.args.reader.now) c.args.self.now.open c.args.self.now.number c.args.self.now.switch c.args.self.now.printer (g.W.Sink.taken c.args.writer.now) (c.requires.start.0, c.requires.start.1, refl, c.requires.start.2);
}

pub returns-in_err-chunk-in-Bytes-clause-plays : goal.returns-in_err-chunk-in-Bytes-clause-plays
returns-in_err-chunk-in-Bytes-clause-plays g c =
    let l = c.loop in
    let n = c.chunk.new.self in
    let r = l.invariant.so_far in
    let p = err_from_is_err_and c.from_residual.result c.from_residual.ensures.1 in
    rw (p.1, p.2) (read_halts c.args.self.now.switch g.T.RowPrinter.tale c.in_err-chunk-in-Bytes.field-0.0 (g.S.Source.answers c.args.reader.now) (g.S.Source.answers l.reader) (g.S.Source.answers c.read_once.new.reader) (g.S.Source.ends c.args.reader.now) (g.S.Source.ends c.read_once.new.reader)
    c.front_of.result.now l.self.open n.open l.self.number n.number l.self.switch n.switch l.self.printer n.printer (g.W.Sink.taken c.args.writer.now) (g.W.Sink.taken l.writer) (g.W.Sink.taken c.chunk.new.writer) r
    (gave_front (g.S.Source.answers l.reader) (g.S.Source.answers c.read_once.new.reader) (take c.in-Bytes.n c.read_once.new.buffer) c.front_of.result.now c.front_of.ensures c.in-Bytes.ensures.answers) (omega (arith, c.in-Bytes.ensures.ends, l.invariant.ends))
    (c.in_err-chunk-in-Bytes.ensures.goes c.args.self.now.switch (given r.more) (g.W.Sink.taken c.args.writer.now) r.within))

pub returns-in_err-chunk-in-Bytes-clause-reads : goal.returns-in_err-chunk-in-Bytes-clause-reads
returns-in_err-chunk-in-Bytes-clause-reads g c =
    let l = c.loop in
    let r = l.invariant.so_far in
    let p = err_from_is_err_and c.from_residual.result c.from_residual.ensures.1 in
    rw (p.1, p.2) (chunk_reads c.args.most c.args.self.now.switch g.T.RowPrinter.tale c.in_err-chunk-in-Bytes.field-0.0 _ _ c.chunk.new.self.printer (g.W.Sink.taken c.args.writer.now) (g.W.Sink.taken c.chunk.new.writer) (g.S.Source.reads c.read_once.new.reader) (g.S.Source.ends c.args.reader.now) (g.S.Source.ends c.read_once.new.reader)
    (g.S.Source.failures c.args.reader.now) (g.S.Source.failures c.read_once.new.reader) (c.in_err-chunk-in-Bytes.ensures.goes c.args.self.now.switch (given r.more) (g.W.Sink.taken c.args.writer.now) r.within) (omega (arith, c.in-Bytes.ensures.failures, l.invariant.failures)))

pub returns-in-End-clause-plays : goal.returns-in-End-clause-plays
returns-in-End-clause-plays g c =
    let l = c.loop in
    read_ends c.args.self.now.switch g.T.RowPrinter.tale c.line.result (g.S.Source.answers c.args.reader.now) (g.S.Source.answers l.reader) (g.S.Source.answers c.read_once.new.reader) Ended (g.S.Source.ends c.args.reader.now) (g.S.Source.ends c.read_once.new.reader)
    l.self.open l.self.number l.self.switch c.line.new.self.switch l.self.printer c.line.new.self.printer (g.W.Sink.taken c.args.writer.now) (g.W.Sink.taken l.writer) (g.W.Sink.taken c.line.new.writer) l.invariant.so_far
    c.in-End.ensures.answers refl (c.in-End.ensures.end refl) (omega (arith, c.in-End.ensures.ends, l.invariant.ends)) c.line.ensures.goes

pub returns-in-End-clause-played : goal.returns-in-End-clause-played
returns-in-End-clause-played g c =
    let l = c.loop in
    read_played c.args.self.now.switch g.T.RowPrinter.tale c.line.result (g.S.Source.answers c.args.reader.now) (g.S.Source.answers l.reader) (g.S.Source.answers c.read_once.new.reader) Ended
    l.self.open l.self.number l.self.switch c.line.new.self.switch l.self.printer c.line.new.self.printer (g.W.Sink.taken c.args.writer.now) (g.W.Sink.taken l.writer) (g.W.Sink.taken c.line.new.writer) l.invariant.so_far
    c.in-End.ensures.answers refl (c.in-End.ensures.end refl) c.line.ensures.goes

pub returns-in-Fault-clause-plays : goal.returns-in-Fault-clause-plays
returns-in-Fault-clause-plays g c =
    let l = c.loop in
    read_stops c.args.self.now.switch g.T.RowPrinter.tale (g.S.Source.answers c.args.reader.now) (g.S.Source.answers c.read_once.new.reader) (g.S.Source.ends c.args.reader.now) (g.S.Source.ends c.read_once.new.reader) l.self.open l.self.number l.self.switch l.self.printer (g.W.Sink.taken c.args.writer.now) (g.W.Sink.taken l.writer)
    (read_idle c.args.self.now.switch g.T.RowPrinter.tale (g.S.Source.answers c.args.reader.now) (g.S.Source.answers l.reader) (g.S.Source.answers c.read_once.new.reader) Failed l.self.open l.self.number l.self.switch l.self.printer (g.W.Sink.taken c.args.writer.now) (g.W.Sink.taken l.writer) l.invariant.so_far c.in-Fault.ensures.answers refl)
    (omega (arith, c.in-Fault.ensures.ends, l.invariant.ends))

pub loop-preserved : goal.loop-preserved
loop-preserved g c =
    let l = c.loop in
    let n = c.chunk.new.self in
    let answers = g.S.Source.answers c.args.reader.now in
    let first = g.W.Sink.taken c.args.writer.now in
    let room : length c.read_once.new.buffer ≡ 65536 = omega (arith, c.read_once.auto.buffer, l.auto.buffer, c.requires.room) in
    record {
      reads = omega (arith, c.in-Bytes.ensures.reads, l.invariant.reads);
      ends = omega (arith, c.in-Bytes.ensures.ends, l.invariant.ends);
      failures = omega (arith, c.in-Bytes.ensures.failures, l.invariant.failures);
      number = omega (arith, c.in_ok-chunk-in-Bytes.ensures.number, l.invariant.number, chunk_size c.in-Bytes.n c.read_once.new.buffer c.front_of.result.now c.front_of.ensures c.in-Bytes.ensures.fits.1 room);
      writes = c.in_ok-chunk-in-Bytes.ensures.writes;
      written = c.in_ok-chunk-in-Bytes.ensures.written;
      early = early_read c.args.self.now.switch g.T.RowPrinter.tale answers (g.S.Source.answers l.reader) (g.S.Source.answers c.read_once.new.reader) (Gave c.front_of.result.now) l.self.open l.self.number l.self.switch l.self.printer first (g.W.Sink.taken l.writer) (g.W.Sink.taken c.chunk.new.writer) l.invariant.so_far l.invariant.written
          (gave_front (g.S.Source.answers l.reader) (g.S.Source.answers c.read_once.new.reader) (take c.in-Bytes.n c.read_once.new.buffer) c.front_of.result.now c.front_of.ensures c.in-Bytes.ensures.answers) c.in_ok-chunk-in-Bytes.ensures.grows;
      so_far = read_chunk c.args.self.now.switch g.T.RowPrinter.tale answers (g.S.Source.answers l.reader) (g.S.Source.answers c.read_once.new.reader) c.front_of.result.now l.self.open n.open l.self.number n.number l.self.switch n.switch l.self.printer n.printer
          first (g.W.Sink.taken l.writer) (g.W.Sink.taken c.chunk.new.writer) l.invariant.so_far
          (gave_front (g.S.Source.answers l.reader) (g.S.Source.answers c.read_once.new.reader) (take c.in-Bytes.n c.read_once.new.buffer) c.front_of.result.now c.front_of.ensures c.in-Bytes.ensures.answers)
          (c.in_ok-chunk-in-Bytes.ensures.goes c.args.self.now.switch (given l.invariant.so_far.more) first l.invariant.so_far.within);
    }

pub returns-in_err-chunk-in-Bytes-clause-early : goal.returns-in_err-chunk-in-Bytes-clause-early
returns-in_err-chunk-in-Bytes-clause-early g c =
    let l = c.loop in
    early_read c.args.self.now.switch g.T.RowPrinter.tale (g.S.Source.answers c.args.reader.now) (g.S.Source.answers l.reader) (g.S.Source.answers c.read_once.new.reader) (Gave c.front_of.result.now) l.self.open l.self.number l.self.switch l.self.printer (g.W.Sink.taken c.args.writer.now) (g.W.Sink.taken l.writer) (g.W.Sink.taken c.chunk.new.writer) l.invariant.so_far l.invariant.written
    (gave_front (g.S.Source.answers l.reader) (g.S.Source.answers c.read_once.new.reader) (take c.in-Bytes.n c.read_once.new.buffer) c.front_of.result.now c.front_of.ensures c.in-Bytes.ensures.answers) c.in_err-chunk-in-Bytes.ensures.grows

pub returns-in-End-clause-early : goal.returns-in-End-clause-early
returns-in-End-clause-early g c =
    let l = c.loop in
    early_read c.args.self.now.switch g.T.RowPrinter.tale (g.S.Source.answers c.args.reader.now) (g.S.Source.answers l.reader) (g.S.Source.answers c.read_once.new.reader) Ended l.self.open l.self.number l.self.switch l.self.printer (g.W.Sink.taken c.args.writer.now) (g.W.Sink.taken l.writer) (g.W.Sink.taken c.line.new.writer) l.invariant.so_far l.invariant.written c.in-End.ensures.answers c.line.ensures.grows

pub returns-in-Fault-clause-early : goal.returns-in-Fault-clause-early
returns-in-Fault-clause-early g c =
    let l = c.loop in
    early_read c.args.self.now.switch g.T.RowPrinter.tale (g.S.Source.answers c.args.reader.now) (g.S.Source.answers l.reader) (g.S.Source.answers c.read_once.new.reader) Failed l.self.open l.self.number l.self.switch l.self.printer (g.W.Sink.taken c.args.writer.now) (g.W.Sink.taken l.writer) (g.W.Sink.taken l.writer) l.invariant.so_far l.invariant.written c.in-Fault.ensures.answers (grows_none _)

pub returns-clause-early : goal.returns-clause-early
returns-clause-early g c = c.loop.invariant.early
