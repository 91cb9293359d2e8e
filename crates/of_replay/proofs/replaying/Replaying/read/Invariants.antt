use Rattle.std.proofs.Common.{◌≡◌, ◌≤◌, ◌+◌, ◌*◌, []}
use Rattle.of_replay.specs.{Play.WrittenEarly, RowTexts.told, Stepping.ReadSoFar}
use Rattle.of_replay.proofs.replaying.Replaying.read.Given as goal

abbrev pub invariant-loop : goal.invariant-loop
invariant-loop g l = record {
  reads : g.S.Source.reads l.reader ≡ l.counter;
  ends : g.S.Source.ends l.reader ≡ g.S.Source.ends l.fn.reader;
  failures : g.S.Source.failures l.reader ≡ g.S.Source.failures l.fn.reader;
  number : l.self.number ≤ l.counter * 65536 + 1;
  writes : g.W.Sink.failures l.writer ≡ 0;
  written : l.self.printer ≡ [];
  early : WrittenEarly (told l.fn.self.switch g.T.RowPrinter.tale) (g.S.Source.answers l.fn.reader) (g.S.Source.answers l.reader) (g.W.Sink.taken l.fn.writer) (g.W.Sink.taken l.writer);
  so_far : ReadSoFar l.fn.self.switch g.T.RowPrinter.tale (g.S.Source.answers l.fn.reader) (g.S.Source.answers l.reader) l.self.open l.self.number l.self.switch l.self.printer (g.W.Sink.taken l.fn.writer) (g.W.Sink.taken l.writer);
}
