use Rattle.of_switch.specs.Calls.{feed_refusal}
use Rattle.of_history.{specs.Causes.Row, specs.Changes.row_cause, proofs.TurnLemmas.chunk_told}
use Rattle.of_history.proofs.watching.Watching.tell_chunk.Goals as goal

pub returns-in-Ok-clause-said : goal.returns-in-Ok-clause-said
returns-in-Ok-clause-said g c =
    chunk_told g.T.ChangeTeller.text (g.V.View.seen c.args.self.now.view) (row_cause c.args.number c.args.line.now Row) (feed_refusal c.args.self.now.switch) c.in-Ok.field-0 c.args.chunk.now c.args.self.now.switch c.feed.new.self c.tell_messages.result c.args.self.now.out.items c.tell_messages.new.self.out.items c.in-Ok.ensures c.tell_messages.ensures.said
