use Rattle.std.{specs.Prelude.IsTrue, proofs.Common.◌≡◌, proofs.Common.◌++◌, proofs.Common.length}
use Rattle.of_tracing.specs.Encoded.{are_encoded}
use Rattle.of_trace.specs.Notes.{explained_from}
use Rattle.of_trace.proofs.noting.push_explained.Given as goal

abbrev pub invariant-loop-rest : goal.invariant-loop-rest
invariant-loop-rest g l = record {
  encoded : IsTrue (are_encoded l.rest);
  text : l.out.items ++ explained_from l.style l.switch.core.forwarding l.asked l.port l.packets.items l.rest ≡ l.fn.out.items ++ explained_from l.style l.switch.core.forwarding l.asked l.port l.fn.packets.items l.fn.steps;
}

abbrev pub decreases-loop-rest : goal.decreases-loop-rest
decreases-loop-rest g l = length l.rest
