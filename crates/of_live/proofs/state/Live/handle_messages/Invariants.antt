use Rattle.of_live.proofs.Messages.{HandledSoFar}
use Rattle.of_live.proofs.state.Live.handle_messages.Given as goal

abbrev pub invariant-loop : goal.invariant-loop
invariant-loop g l = HandledSoFar l.most l.counter l.keeps l.fn.self l.self l.fn.work l.work
