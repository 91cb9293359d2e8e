use Rattle.std.{specs.Io.KnownBytes.Keeps, proofs.Common.◌≡◌, proofs.Common.◌+◌}
use Rattle.of_replay.proofs.streams.ReaderSourceSource.read.Given as goal

abbrev pub invariant-loop : goal.invariant-loop
invariant-loop g l = record {
  reads : l.self.reads ≡ l.fn.self.reads + 1;
  ends : l.self.ends ≡ l.fn.self.ends;
  failures : l.self.failures ≡ l.fn.self.failures;
  kept : Keeps (g.R.Read.remaining l.fn.self.reader) (g.R.Read.remaining l.self.reader);
}
