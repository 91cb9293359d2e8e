use Rattle.std.proofs.Common.{◌∙◌}
use Rattle.of_text.proofs.LineLemmas.{some_bytes, no_bytes}
use Rattle.of_history.proofs.DifferingLemmas.{later_within, nothing_there, other_line, this_line}
use Rattle.of_history.proofs.differing.after_line.Goals as goal

pub returns-then-is-clause-some : goal.returns-then-is-clause-some
returns-then-is-clause-some c =
    let some = some_bytes c.loop-rest.rest.now c.is_empty.result c.is_empty.ensures c.loop-rest-test.true in
    c.loop-rest.invariant.there ∙ this_line c.loop-rest.rest.now some c.args.line.now c.cut.result.0.now c.is.result c.cut.ensures.first c.is.ensures c.if-is.true

pub returns-then-is-clause-within : goal.returns-then-is-clause-within
returns-then-is-clause-within c =
    let some = some_bytes c.loop-rest.rest.now c.is_empty.result c.is_empty.ensures c.loop-rest-test.true in
    later_within c.loop-rest.rest.now some c.args.text.now c.cut.result.1.now c.cut.ensures.rest c.loop-rest.invariant.within

pub loop-rest-preserved : goal.loop-rest-preserved
loop-rest-preserved c =
    let some = some_bytes c.loop-rest.rest.now c.is_empty.result c.is_empty.ensures c.loop-rest-test.true in
    record {
      there = c.loop-rest.invariant.there ∙ other_line c.loop-rest.rest.now some c.args.line.now c.cut.result.0.now c.cut.result.1.now c.is.result c.cut.ensures.first c.cut.ensures.rest c.is.ensures c.if-is.false;
      within = later_within c.loop-rest.rest.now some c.args.text.now c.cut.result.1.now c.cut.ensures.rest c.loop-rest.invariant.within;
    }

pub returns-clause-none : goal.returns-clause-none
returns-clause-none c =
    let none = no_bytes c.loop-rest.rest.now c.is_empty.result c.is_empty.ensures c.loop-rest-test.false in
    c.loop-rest.invariant.there ∙ nothing_there c.loop-rest.rest.now c.args.line.now none
