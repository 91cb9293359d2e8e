use Rattle.std.proofs.Common.{length}
use Rattle.of_wire.proofs.Walking.{Going}
use Rattle.of_actions.{specs.Headers.headers_of, proofs.HeaderLists.Fine}
use Rattle.of_actions.proofs.header_reading.read_headers.Given as goal

abbrev pub invariant-loop-rest : goal.invariant-loop-rest
invariant-loop-rest l = record { going : Going (headers_of l.table) l.bytes l.headers.items l.rest; fine : Fine l.table l.headers.items }

abbrev pub decreases-loop-rest : goal.decreases-loop-rest
decreases-loop-rest l = length l.rest
