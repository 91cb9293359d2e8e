use Rattle.std.proofs.Common.{sym, ◌∙◌}
use Rattle.of_table.{specs.Selecting.all_told, proofs.SpanLemmas.told_by_span}
use Rattle.of_table.proofs.flow_table.FlowTable.list.Goals as goal

pub returns-then-concerns : goal.returns-then-concerns
returns-then-concerns g c =
    told_by_span c.list_gone.result c.args.cause.now c.args.table c.args.self.now c.entries.result.now c.span_going-span.result.first c.span_going-span.result.end (all_told c.args.removed.now.items) (all_told c.list_gone.new.removed.items) (sym c.concerns.ensures ∙ c.if-concerns.true) c.entries.ensures c.span_going-span.ensures c.list_gone.ensures
