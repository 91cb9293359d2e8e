use Rattle.std.proofs.Common.{length}
use Rattle.of_serve.proofs.CutLemmas.{HandledSoFar}
use Rattle.of_serve.proofs.gathering.Gathering.handle_all.Given as goal

abbrev pub invariant-loop : goal.invariant-loop
invariant-loop g l = HandledSoFar l.fn.self l.self

abbrev pub decreases-loop : goal.decreases-loop
decreases-loop g l = length l.self.state.connection.pending
