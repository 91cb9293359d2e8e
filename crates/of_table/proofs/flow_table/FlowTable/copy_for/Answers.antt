use Rattle.std.proofs.Common.{sym, ◌∙◌}
use Rattle.of_table.proofs.SpanLemmas.{copies_inside}
use Rattle.of_table.proofs.flow_table.FlowTable.copy_for.Goals as goal

pub returns-then-is_in : goal.returns-then-is_in
returns-then-is_in g c =
    copies_inside c.make_copies.result c.args.which.now c.args.table c.args.self.now c.entries.result.now c.span_of-span.result.first c.span_of-span.result.end c.args.copies.now c.make_copies.new.copies (sym c.is_in.ensures ∙ c.if-is_in.true) c.entries.ensures c.span_of-span.ensures c.make_copies.ensures
