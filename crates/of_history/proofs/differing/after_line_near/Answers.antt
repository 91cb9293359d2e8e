use Rattle.of_text.proofs.LineLemmas.{some_bytes}
use Rattle.of_history.proofs.DifferingLemmas.{later_within, this_line}
use Rattle.of_history.proofs.differing.after_line_near.Goals as goal

pub returns-then-is-clause-some : goal.returns-then-is-clause-some
returns-then-is-clause-some c =
    let some = some_bytes c.args.part.now c.is_empty.result c.is_empty.ensures c.if-is_empty.false in
    c.requires c.args.line.now (this_line c.args.part.now some c.args.line.now c.cut.result.0.now c.is.result c.cut.ensures.first c.is.ensures c.if-is.true)

pub returns-then-is-clause-within : goal.returns-then-is-clause-within
returns-then-is-clause-within c =
    let some = some_bytes c.args.part.now c.is_empty.result c.is_empty.ensures c.if-is_empty.false in
    later_within c.args.part.now some c.args.text.now c.cut.result.1.now c.cut.ensures.rest c.requires
