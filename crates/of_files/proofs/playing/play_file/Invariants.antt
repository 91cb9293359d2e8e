use Rattle.std.proofs.Common.{◌+◌, ◌≤◌, length}
use Rattle.of_files.proofs.PlayLemmas.{PlayedSoFar}
use Rattle.of_files.proofs.playing.play_file.Given as goal

abbrev pub decreases-loop-rest : goal.decreases-loop-rest
decreases-loop-rest g l = length l.rest

abbrev pub invariant-loop-rest : goal.invariant-loop-rest
invariant-loop-rest g l = record {
  played : PlayedSoFar l.most l.file l.rest l.switch l.number;
  count : l.number + length l.rest ≤ length l.file;
}
