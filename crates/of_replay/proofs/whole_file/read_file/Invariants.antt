use Rattle.std.proofs.Common.{◌≡◌}
use Rattle.of_replay.proofs.FileLemmas.{FileSoFar}
use Rattle.of_replay.proofs.whole_file.read_file.Given as goal

abbrev pub invariant-loop : goal.invariant-loop
invariant-loop g l = record {
  reads : g.S.Source.reads l.reader ≡ l.counter;
  ends : g.S.Source.ends l.reader ≡ g.S.Source.ends l.fn.reader;
  failures : g.S.Source.failures l.reader ≡ g.S.Source.failures l.fn.reader;
  so_far : FileSoFar (g.S.Source.answers l.fn.reader) (g.S.Source.answers l.reader) l.file.items;
}
