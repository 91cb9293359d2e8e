use Rattle.std.proofs.Common.{◌+◌, ◌≤◌, length}
use Rattle.of_sockets.proofs.FileLemmas.{RowsSoFar}
use Rattle.of_sockets.proofs.event_rows.rows_in.Given as goal

abbrev pub decreases-loop-rest : goal.decreases-loop-rest
decreases-loop-rest l = length l.rest

abbrev pub invariant-loop-rest : goal.invariant-loop-rest
invariant-loop-rest l = record {
  rows : RowsSoFar l.file l.rest l.events.items l.number;
  count : l.number + length l.rest ≤ length l.file;
}
