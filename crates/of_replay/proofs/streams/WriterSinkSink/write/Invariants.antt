use Rattle.std.{specs.Io.KnownBytes.Keeps, proofs.Common.◌≡◌}
use Rattle.of_replay.proofs.streams.WriterSinkSink.write.Given as goal

abbrev pub invariant-loop : goal.invariant-loop
invariant-loop g l = record {
  failures : l.self.failures ≡ l.fn.self.failures;
  kept : Keeps (g.W.Write.contents l.fn.self.writer) (g.W.Write.contents l.self.writer);
}
