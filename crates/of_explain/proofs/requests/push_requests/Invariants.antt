use Rattle.std.{specs.List.flat_map, proofs.Common.◌≡◌, proofs.Common.◌++◌, proofs.Common.length}
use Rattle.of_explain.specs.Requests.{messages_in_bytes, request_notes}
use Rattle.of_explain.proofs.requests.push_requests.Given as goal

abbrev pub invariant-loop-size : goal.invariant-loop-size
invariant-loop-size l = l.out.items ++ flat_map request_notes (messages_in_bytes l.stream) ≡ l.fn.out.items ++ flat_map request_notes (messages_in_bytes l.fn.stream)

abbrev pub decreases-loop-size : goal.decreases-loop-size
decreases-loop-size l = length l.stream
