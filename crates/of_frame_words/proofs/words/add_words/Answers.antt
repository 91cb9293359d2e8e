use Rattle.std.proofs.Common.{◌∙◌, sym}
use Rattle.of_ovs_words.proofs.WordLemmas.{some_bytes, no_bytes}
use Rattle.of_frame_words.proofs.WordLemmas.{words_end, words_passed, words_more, words_stop, stops_same}
use Rattle.of_frame_words.proofs.words.add_words.Goals as goal

pub loop-rest-preserved-in-Ok : goal.loop-rest-preserved-in-Ok
loop-rest-preserved-in-Ok c = c.loop-rest.invariant ∙ words_more c.args.masks c.loop-rest.settings.items c.add_word.new.settings.items c.loop-rest.rest.now c.cut_word.result.0.now c.cut_word.result.1.now (some_bytes c.loop-rest.rest.now c.is_empty.result c.is_empty.ensures c.loop-rest-test.true) c.cut_word.ensures.first c.cut_word.ensures.rest (sym c.sets_no_field.ensures ∙ c.if-not-sets_no_field.true) c.in-Ok.ensures.added

pub returns-in-Err-clause-stopped : goal.returns-in-Err-clause-stopped
returns-in-Err-clause-stopped c = stops_same _ _ c.in-Err.stop c.loop-rest.invariant (words_stop c.args.masks c.loop-rest.settings.items c.loop-rest.rest.now c.cut_word.result.0.now c.in-Err.stop (some_bytes c.loop-rest.rest.now c.is_empty.result c.is_empty.ensures c.loop-rest-test.true) c.cut_word.ensures.first (sym c.sets_no_field.ensures ∙ c.if-not-sets_no_field.true) c.in-Err.ensures.stopped)

pub loop-rest-preserved : goal.loop-rest-preserved
loop-rest-preserved c = c.loop-rest.invariant ∙ words_passed c.args.masks c.loop-rest.settings.items c.loop-rest.rest.now c.cut_word.result.0.now c.cut_word.result.1.now (some_bytes c.loop-rest.rest.now c.is_empty.result c.is_empty.ensures c.loop-rest-test.true) c.cut_word.ensures.first c.cut_word.ensures.rest (sym c.sets_no_field.ensures ∙ c.if-not-sets_no_field.false)

pub returns-clause-added : goal.returns-clause-added
returns-clause-added c = c.loop-rest.invariant ∙ words_end c.args.masks c.loop-rest.settings.items c.loop-rest.rest.now (no_bytes c.loop-rest.rest.now c.is_empty.result c.is_empty.ensures c.loop-rest-test.false)
