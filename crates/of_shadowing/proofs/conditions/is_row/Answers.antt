use Rattle.std.proofs.Common.{◌∙◌, sym}
use Rattle.of_text.proofs.LineLemmas.{some_bytes, no_bytes}
use Rattle.of_shadowing.proofs.RowLemmas.{no_row, row_here, row_later}
use Rattle.of_shadowing.proofs.conditions.is_row.Goals as goal

pub returns-then-is : goal.returns-then-is
returns-then-is c = sym (c.loop-rest.invariant ∙ row_here c.args.name.now c.loop-rest.rest.now c.cut.result.0.now (some_bytes c.loop-rest.rest.now c.is_empty.result c.is_empty.ensures c.loop-rest-test.true) c.cut.ensures.first (sym c.is.ensures ∙ c.if-is.true))

pub loop-rest-preserved : goal.loop-rest-preserved
loop-rest-preserved c = c.loop-rest.invariant ∙ row_later c.args.name.now c.loop-rest.rest.now c.cut.result.0.now c.cut.result.1.now (some_bytes c.loop-rest.rest.now c.is_empty.result c.is_empty.ensures c.loop-rest-test.true) c.cut.ensures.first c.cut.ensures.rest (sym c.is.ensures ∙ c.if-is.false)

pub returns : goal.returns
returns c = sym (c.loop-rest.invariant ∙ no_row c.args.name.now c.loop-rest.rest.now (no_bytes c.loop-rest.rest.now c.is_empty.result c.is_empty.ensures c.loop-rest-test.false))
