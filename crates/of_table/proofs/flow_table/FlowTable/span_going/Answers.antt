use Rattle.of_table.proofs.SpanLemmas.{going_inside, none_going}
use Rattle.of_table.proofs.flow_table.FlowTable.span_going.Goals as goal

pub returns-in-Delete : goal.returns-in-Delete
returns-in-Delete g c = going_inside c.in-Delete.which c.args.cause.now c.args.self.now.entries c.span_of.result.first c.span_of.result.end c.in-Delete.is c.span_of.ensures

pub returns-in-Moment : goal.returns-in-Moment
returns-in-Moment g c = none_going c.args.cause.now c.args.self.now.entries (rw (c.in-Moment.is, ← c.self.view_is) (c.self.invariant.1 c.in-Moment.now c.if-now-self.true))
