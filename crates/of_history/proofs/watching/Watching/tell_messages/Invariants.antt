use Rattle.std.proofs.Common.{◌≡◌, ◌+◌, ◌≤◌, length}
use Rattle.of_history.{specs.Causes.Row, specs.Changes.row_cause, specs.Sights.sight_text, proofs.TurnLemmas.Telling}
use Rattle.of_history.proofs.watching.Watching.tell_messages.Given as goal

abbrev pub invariant-loop-message : goal.invariant-loop-message
invariant-loop-message g l = record {
  view : l.self.view ≡ l.fn.self.view;
  fresh : sight_text l.self.seen ≡ g.V.View.seen l.fn.self.view l.self.switch.core.forwarding;
  few : l.turn + length l.self.switch.connection.pending ≤ l._most;
  telling : Telling g.T.ChangeTeller.text (g.V.View.seen l.fn.self.view) (row_cause l.number l.line Row) l.fn.self.switch l.self.switch l.turn l.fn.self.out.items l.self.out.items;
}

abbrev pub decreases-loop-message : goal.decreases-loop-message
decreases-loop-message g l = length l.self.switch.connection.pending
