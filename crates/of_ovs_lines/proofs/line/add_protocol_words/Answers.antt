use Rattle.std.proofs.Common.{◌∙◌, sym}
use Rattle.of_ovs_lines.specs.{LineContents.with_word_of_protocol, PartialFlowViews.view_partial_flow}
use Rattle.of_ovs_lines.proofs.LineLemmas.{before_ends, before_more, none_before}
use Rattle.of_ovs_words.proofs.WordLemmas.{some_bytes, no_bytes}
use Rattle.of_ovs_lines.proofs.line.add_protocol_words.Goals as goal

pub returns-then-begins_actions : goal.returns-then-begins_actions
returns-then-begins_actions c = c.loop-rest.invariant ∙ before_ends with_word_of_protocol (view_partial_flow c.loop-rest.partial) c.loop-rest.rest.now c.cut_word.result.0.now (some_bytes c.loop-rest.rest.now c.is_empty.result c.is_empty.ensures c.loop-rest-test.true) c.cut_word.ensures.first (sym c.begins_actions.ensures ∙ c.if-begins_actions.true)

pub loop-rest-preserved : goal.loop-rest-preserved
loop-rest-preserved c = c.loop-rest.invariant ∙ before_more with_word_of_protocol (view_partial_flow c.loop-rest.partial) (view_partial_flow c.add_protocol_word.new.partial) c.loop-rest.rest.now c.cut_word.result.0.now c.cut_word.result.1.now (some_bytes c.loop-rest.rest.now c.is_empty.result c.is_empty.ensures c.loop-rest-test.true) c.cut_word.ensures.first c.cut_word.ensures.rest (sym c.begins_actions.ensures ∙ c.if-begins_actions.false) c.in-Ok.ensures

pub returns : goal.returns
returns c = c.loop-rest.invariant ∙ none_before with_word_of_protocol (view_partial_flow c.loop-rest.partial) c.loop-rest.rest.now (no_bytes c.loop-rest.rest.now c.is_empty.result c.is_empty.ensures c.loop-rest-test.false)
