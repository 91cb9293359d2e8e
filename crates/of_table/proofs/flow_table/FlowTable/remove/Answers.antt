use Rattle.std.proofs.Common.{sym}
use Rattle.of_table.proofs.SpanLemmas.{kept_same}
use Rattle.of_table.proofs.flow_table.FlowTable.remove.Goals as goal

pub returns-then-span : goal.returns-then-span
returns-then-span g c = kept_same c.args.cause.now c.args.table c.args.self.now c.span_going-span.result.first c.span_going-span.result.end (sym c.if-not-concerns.ensures) c.if-span.true c.span_going-span.ensures
