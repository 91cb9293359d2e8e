use Rattle.std.proofs.{Common.arith, Common.refl, Common.take, lemmas.Result.err_from_is_err_and}
use Rattle.of_replay.proofs.FileLemmas.{file_begun, file_idle, file_more, file_ends, file_stops, file_unkept}
use Rattle.of_replay.{specs.Told.Ended, specs.Told.Failed, proofs.TellingLemmas.gave_front}
use Rattle.of_replay.proofs.whole_file.read_file.Goals as goal

pub loop-init : goal.loop-init
loop-init g c = record {
  reads = c.requires.fresh;
  ends = refl;
  failures = refl;
  so_far = file_begun (g.S.Source.answers c.args.reader.now) c.args.file.now.items c.requires.empty;
}

pub returns-in_err-keep-in-Bytes-clause-gave : goal.returns-in_err-keep-in-Bytes-clause-gave
returns-in_err-keep-in-Bytes-clause-gave g c =
    let l = c.loop in
    let p = err_from_is_err_and c.from_residual.result c.from_residual.ensures.1 in
    rw (p.1, p.2, c.in_err-keep-in-Bytes.ensures.memory) (file_unkept (g.S.Source.answers c.args.reader.now) (g.S.Source.answers c.read.new.self) (g.S.Source.ends c.args.reader.now) (g.S.Source.ends c.read.new.self) _ _
    (file_more (g.S.Source.answers c.args.reader.now) (g.S.Source.answers l.reader) (g.S.Source.answers c.read.new.self) c.front_of.result.now l.file.items _ l.invariant.so_far
    (gave_front (g.S.Source.answers l.reader) (g.S.Source.answers c.read.new.self) (take c.in-Bytes.n c.read.new.buffer) c.front_of.result.now c.front_of.ensures c.in-Bytes.ensures.answers) refl)
    (omega (arith, c.in-Bytes.ensures.ends, l.invariant.ends)))

pub returns-in_err-keep-in-Bytes-clause-reads : goal.returns-in_err-keep-in-Bytes-clause-reads
returns-in_err-keep-in-Bytes-clause-reads g c =
    let l = c.loop in
    let p = err_from_is_err_and c.from_residual.result c.from_residual.ensures.1 in
    rw (p.1, p.2, c.in_err-keep-in-Bytes.ensures.memory) (omega (arith, c.in-Bytes.ensures.failures, l.invariant.failures))

pub returns-in-End-clause-gave : goal.returns-in-End-clause-gave
returns-in-End-clause-gave g c =
    let l = c.loop in
    file_ends (g.S.Source.answers c.args.reader.now) (g.S.Source.answers c.read.new.self) (g.S.Source.ends c.args.reader.now) (g.S.Source.ends c.read.new.self) l.file.items
    (file_idle (g.S.Source.answers c.args.reader.now) (g.S.Source.answers l.reader) (g.S.Source.answers c.read.new.self) Ended l.file.items l.invariant.so_far c.in-End.ensures.answers refl)
    (c.in-End.ensures.end refl) (omega (arith, c.in-End.ensures.ends, l.invariant.ends))

pub returns-in-Fault-clause-gave : goal.returns-in-Fault-clause-gave
returns-in-Fault-clause-gave g c =
    let l = c.loop in
    file_stops (g.S.Source.answers c.args.reader.now) (g.S.Source.answers c.read.new.self) (g.S.Source.ends c.args.reader.now) (g.S.Source.ends c.read.new.self) l.file.items _
    (file_idle (g.S.Source.answers c.args.reader.now) (g.S.Source.answers l.reader) (g.S.Source.answers c.read.new.self) Failed l.file.items l.invariant.so_far c.in-Fault.ensures.answers refl)
    (omega (arith, c.in-Fault.ensures.ends, l.invariant.ends))

pub returns-clause-gave : goal.returns-clause-gave
returns-clause-gave g c =
    let l = c.loop in
    file_stops (g.S.Source.answers c.args.reader.now) (g.S.Source.answers l.reader) (g.S.Source.ends c.args.reader.now) (g.S.Source.ends l.reader) l.file.items _ l.invariant.so_far l.invariant.ends

pub loop-preserved : goal.loop-preserved
loop-preserved g c =
    let l = c.loop in
    record {
      reads = omega (arith, c.in-Bytes.ensures.reads, l.invariant.reads);
      ends = omega (arith, c.in-Bytes.ensures.ends, l.invariant.ends);
      failures = omega (arith, c.in-Bytes.ensures.failures, l.invariant.failures);
      so_far = file_more (g.S.Source.answers c.args.reader.now) (g.S.Source.answers l.reader) (g.S.Source.answers c.read.new.self) c.front_of.result.now l.file.items _ l.invariant.so_far
          (gave_front (g.S.Source.answers l.reader) (g.S.Source.answers c.read.new.self) (take c.in-Bytes.n c.read.new.buffer) c.front_of.result.now c.front_of.ensures c.in-Bytes.ensures.answers) c.in_ok-keep-in-Bytes.ensures.kept;
    }
