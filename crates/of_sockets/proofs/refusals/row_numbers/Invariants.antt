use Rattle.std.proofs.Common.{◌+◌, ◌≤◌, length}
use Rattle.of_sockets.proofs.RefusalLemmas.{NumbersSoFar}
use Rattle.of_sockets.proofs.refusals.row_numbers.Given as goal

abbrev pub decreases-loop-rest : goal.decreases-loop-rest
decreases-loop-rest l = length l.rest

abbrev pub invariant-loop-rest : goal.invariant-loop-rest
invariant-loop-rest l = record {
  numbers : NumbersSoFar l.file l.rest l.numbers.items l.number;
  count : l.number + length l.rest ≤ length l.file;
}
