use Rattle.std.{specs.List.flat_map, proofs.Common.◌≡◌, proofs.Common.◌++◌, proofs.Common.◌+◌, proofs.Common.length}
use Rattle.of_session.specs.Stream.{concat}
use Rattle.of_explain.specs.{Requests.messages_in_bytes, Saying.message_lines}
use Rattle.of_explain.proofs.saying.push_messages.Given as goal

abbrev pub invariant-loop-size : goal.invariant-loop-size
invariant-loop-size l = (l.out.items ++ flat_map message_lines (messages_in_bytes l.stream) ≡ l.fn.out.items ++ flat_map message_lines (messages_in_bytes l.fn.stream))
    × (length l.stream + length (concat (messages_in_bytes l.fn.stream)) ≡ length l.fn.stream + length (concat (messages_in_bytes l.stream)))

abbrev pub decreases-loop-size : goal.decreases-loop-size
decreases-loop-size l = length l.stream
