use Rattle.std.proofs.Common.{◌∙◌, sym}
use Rattle.of_text.proofs.LineLemmas.{some_bytes, no_bytes}
use Rattle.of_history.proofs.ReasonLemmas.{ended_new, ended_old, other_line, same_line}
use Rattle.of_history.proofs.reason.parts_at_lookup.Goals as goal

pub returns-then-is_empty : goal.returns-then-is_empty
returns-then-is_empty c =
    let some = some_bytes c.loop-gone.gone.now c.is_empty.result c.is_empty.ensures c.loop-gone-test.true in
    let none = no_bytes c.loop-gone.come.now c.is_empty-in-loop-gone.result c.is_empty-in-loop-gone.ensures c.if-is_empty.true in
    c.is_lookup.ensures ∙ sym (ended_new c.loop-gone.gone.now c.loop-gone.come.now c.cut.result.0.now some c.cut.ensures.first none) ∙ c.loop-gone.invariant

pub returns-then-not-is : goal.returns-then-not-is
returns-then-not-is c =
    let some = some_bytes c.loop-gone.gone.now c.is_empty.result c.is_empty.ensures c.loop-gone-test.true in
    let more = some_bytes c.loop-gone.come.now c.is_empty-in-loop-gone.result c.is_empty-in-loop-gone.ensures c.if-is_empty.false in
    c.is_lookup-then-not-is.ensures
    ∙ sym (other_line c.loop-gone.gone.now c.loop-gone.come.now c.cut.result.0.now some c.cut.ensures.first more _ c.is.result c.cut-in-loop-gone.ensures.first c.is.ensures c.if-not-is.true)
    ∙ c.loop-gone.invariant

pub loop-gone-preserved : goal.loop-gone-preserved
loop-gone-preserved c =
    let some = some_bytes c.loop-gone.gone.now c.is_empty.result c.is_empty.ensures c.loop-gone-test.true in
    let more = some_bytes c.loop-gone.come.now c.is_empty-in-loop-gone.result c.is_empty-in-loop-gone.ensures c.if-is_empty.false in
    sym (same_line c.loop-gone.gone.now c.loop-gone.come.now c.cut.result.0.now some c.cut.ensures.first more _ c.cut.result.1.now c.cut-in-loop-gone.result.1.now c.is.result
    c.cut-in-loop-gone.ensures.first c.cut.ensures.rest c.cut-in-loop-gone.ensures.rest c.is.ensures c.if-not-is.false)
    ∙ c.loop-gone.invariant

pub returns : goal.returns
returns c = sym (ended_old c.loop-gone.gone.now c.loop-gone.come.now (no_bytes c.loop-gone.gone.now c.is_empty.result c.is_empty.ensures c.loop-gone-test.false)) ∙ c.loop-gone.invariant
