use Rattle.std.proofs.Common.{◌∙◌, sym}
use Rattle.of_ovs_words.proofs.WordLemmas.{some_bytes, no_bytes, through_at_end, through_passed, through_more, through_refused}
use Rattle.of_ovs_words.specs.Actions.{with_key}
use Rattle.of_ovs_words.proofs.actions.length_by_keys.Goals as goal

pub loop-rest-preserved-in-Ok : goal.loop-rest-preserved-in-Ok
loop-rest-preserved-in-Ok c = c.loop-rest.invariant ∙ through_more with_key c.loop-rest.len c.in-Ok.next c.loop-rest.rest.now c.cut_word.result.0.now c.cut_word.result.1.now (some_bytes c.loop-rest.rest.now c.is_empty.result c.is_empty.ensures c.loop-rest-test.true) c.cut_word.ensures.first c.cut_word.ensures.rest (sym c.is_empty-in-loop-rest.ensures ∙ c.if-not-is_empty.true) (sym c.in-Ok.ensures)

pub returns-in-Err : goal.returns-in-Err
returns-in-Err c = sym (c.loop-rest.invariant ∙ through_refused with_key c.loop-rest.len c.loop-rest.rest.now c.cut_word.result.0.now c.in-Err.why (some_bytes c.loop-rest.rest.now c.is_empty.result c.is_empty.ensures c.loop-rest-test.true) c.cut_word.ensures.first (sym c.is_empty-in-loop-rest.ensures ∙ c.if-not-is_empty.true) (sym c.in-Err.ensures))

pub loop-rest-preserved : goal.loop-rest-preserved
loop-rest-preserved c = c.loop-rest.invariant ∙ through_passed with_key c.loop-rest.len c.loop-rest.rest.now c.cut_word.result.0.now c.cut_word.result.1.now (some_bytes c.loop-rest.rest.now c.is_empty.result c.is_empty.ensures c.loop-rest-test.true) c.cut_word.ensures.first c.cut_word.ensures.rest (sym c.is_empty-in-loop-rest.ensures ∙ c.if-not-is_empty.false)

pub returns : goal.returns
returns c = let none = no_bytes c.loop-rest.rest.now c.is_empty.result c.is_empty.ensures c.loop-rest-test.false in sym (c.loop-rest.invariant ∙ rw none (through_at_end with_key c.loop-rest.len))
