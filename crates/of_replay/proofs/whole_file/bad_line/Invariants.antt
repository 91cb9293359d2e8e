use Rattle.std.proofs.Common.{◌≡◌, ◌+◌, ◌≤◌, length}
use Rattle.of_text.specs.Lines.{lines_of}
use Rattle.of_replay.specs.WholeFiles.{unreadable}
use Rattle.of_replay.proofs.whole_file.bad_line.Given as goal

abbrev pub decreases-loop-rest : goal.decreases-loop-rest
decreases-loop-rest l = length l.rest

abbrev pub invariant-loop-rest : goal.invariant-loop-rest
invariant-loop-rest l = record {
  line : unreadable 0 (lines_of l.file) ≡ unreadable l.number (lines_of l.rest);
  count : l.number + length l.rest ≤ length l.file;
}
