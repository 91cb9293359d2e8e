use Rattle.of_text.proofs.LineLemmas.{some_bytes, no_bytes}
use Rattle.of_history.proofs.MarkLemmas.{ends_with, goes_on, no_new, no_old, other_first, same_test}
use Rattle.of_history.proofs.marks.push_both.Goals as goal

pub returns-then-is_empty : goal.returns-then-is_empty
returns-then-is_empty c =
    let none = no_bytes c.loop-out.gone.now c.is_empty.result c.is_empty.ensures c.if-is_empty.true in
    ends_with c.push_others.result c.loop-out.out.items c.push_others.new.out.items _ _ _ (no_old c.loop-out.gone.now c.loop-out.come.now none) c.push_others.ensures c.loop-out.invariant

pub returns-then-is_empty-2 : goal.returns-then-is_empty-2
returns-then-is_empty-2 c =
    let none = no_bytes c.loop-out.come.now c.is_empty-in-loop-out.result c.is_empty-in-loop-out.ensures c.if-is_empty-2.true in
    ends_with c.push_others-then-is_empty-2.result c.loop-out.out.items c.push_others-then-is_empty-2.new.out.items _ _ _ (no_new c.loop-out.gone.now c.loop-out.come.now none) c.push_others-then-is_empty-2.ensures c.loop-out.invariant

pub returns-then-not-is : goal.returns-then-not-is
returns-then-not-is c =
    let old = some_bytes c.loop-out.gone.now c.is_empty.result c.is_empty.ensures c.if-is_empty.false in
    let fresh = some_bytes c.loop-out.come.now c.is_empty-in-loop-out.result c.is_empty-in-loop-out.ensures c.if-is_empty-2.false in
    let test = same_test c.loop-out.gone.now c.loop-out.come.now _ _ c.is.result _ c.cut.ensures.first c.cut-in-loop-out.ensures.first c.is.ensures c.if-not-is.true in
    ends_with c.push_others-then-not-is.result c.loop-out.out.items c.push_others-then-not-is.new.out.items _ _ _ (other_first c.loop-out.gone.now c.loop-out.come.now old fresh test) c.push_others-then-not-is.ensures c.loop-out.invariant

pub loop-out-preserved : goal.loop-out-preserved
loop-out-preserved c =
    let old = some_bytes c.loop-out.gone.now c.is_empty.result c.is_empty.ensures c.if-is_empty.false in
    let fresh = some_bytes c.loop-out.come.now c.is_empty-in-loop-out.result c.is_empty-in-loop-out.ensures c.if-is_empty-2.false in
    let test = same_test c.loop-out.gone.now c.loop-out.come.now _ _ c.is.result _ c.cut.ensures.first c.cut-in-loop-out.ensures.first c.is.ensures c.if-not-is.false in
    rw (c.cut.ensures.rest, c.cut-in-loop-out.ensures.rest)
    (goes_on c.loop-out.out.items c.push_marked.new.out.items c.loop-out.gone.now c.loop-out.come.now c.cut.result.0.now _ old fresh c.cut.ensures.first test (c.in_ok-push_marked.ensures) c.loop-out.invariant)
