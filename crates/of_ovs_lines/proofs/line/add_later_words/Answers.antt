use Rattle.std.proofs.Common.{◌∙◌, sym}
use Rattle.of_ovs_lines.{specs.LineContents.with_later_word, specs.PartialFlowViews.view_partial_flow, proofs.LineLemmas.words_at_end, proofs.LineLemmas.words_passed, proofs.LineLemmas.words_more}
use Rattle.of_ovs_words.proofs.WordLemmas.{some_bytes, no_bytes}
use Rattle.of_ovs_lines.proofs.line.add_later_words.Goals as goal

pub loop-rest-preserved-in-Ok : goal.loop-rest-preserved-in-Ok
loop-rest-preserved-in-Ok c = c.loop-rest.invariant ∙ words_more with_later_word (view_partial_flow c.loop-rest.partial) (view_partial_flow c.add_later_word.new.partial) c.loop-rest.rest.now c.cut_word.result.0.now c.cut_word.result.1.now (some_bytes c.loop-rest.rest.now c.is_empty.result c.is_empty.ensures c.loop-rest-test.true) c.cut_word.ensures.first c.cut_word.ensures.rest (sym c.is_empty-in-loop-rest.ensures ∙ c.if-not-is_empty.true) c.in-Ok.ensures

pub loop-rest-preserved : goal.loop-rest-preserved
loop-rest-preserved c = c.loop-rest.invariant ∙ words_passed with_later_word (view_partial_flow c.loop-rest.partial) c.loop-rest.rest.now c.cut_word.result.0.now c.cut_word.result.1.now (some_bytes c.loop-rest.rest.now c.is_empty.result c.is_empty.ensures c.loop-rest-test.true) c.cut_word.ensures.first c.cut_word.ensures.rest (sym c.is_empty-in-loop-rest.ensures ∙ c.if-not-is_empty.false)

pub returns : goal.returns
returns c = let none = no_bytes c.loop-rest.rest.now c.is_empty.result c.is_empty.ensures c.loop-rest-test.false in c.loop-rest.invariant ∙ rw none (words_at_end with_later_word (view_partial_flow c.loop-rest.partial))
