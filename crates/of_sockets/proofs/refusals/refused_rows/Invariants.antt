use Rattle.std.proofs.Common.{drop}
use Rattle.of_sockets.{specs.Refusals.refused_rows_from, proofs.RefusalLemmas.RefusedSoFar}
use Rattle.of_sockets.proofs.refusals.refused_rows.Given as goal

abbrev pub invariant-loop-place : goal.invariant-loop-place
invariant-loop-place g l = RefusedSoFar (refused_rows_from 0 l.fn.switch l.events l.lines) l.rows.items l.due l.switch (drop l.place l.events) (drop l.place l.lines)
