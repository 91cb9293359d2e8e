use Rattle.std.proofs.Common.{◌∙◌, ap, sym}
use Rattle.of_ovs_words.{specs.Words.words_from, proofs.WordLemmas.some_bytes, proofs.WordLemmas.no_bytes}
use Rattle.of_ovs_lines.{specs.LineContents.with_words, proofs.LineLemmas.words_at_end, proofs.LineLemmas.words_passed, proofs.LineLemmas.words_more}
use Rattle.of_shadowing.specs.{LineWords.with_line_word, LineWordViews.view_line_words}
use Rattle.of_shadowing.proofs.line_words.split_line.Goals as goal

pub loop-rest-init : goal.loop-rest-init
loop-rest-init c = ap (λ s. with_words with_line_word s (words_from 0 c.args.text.now)) (sym c.new-words.ensures)

pub loop-rest-preserved-in-Ok : goal.loop-rest-preserved-in-Ok
loop-rest-preserved-in-Ok c = c.loop-rest.invariant ∙ words_more with_line_word (view_line_words c.loop-rest.words) (view_line_words c.add.new.self) c.loop-rest.rest.now c.cut_word.result.0.now c.cut_word.result.1.now (some_bytes c.loop-rest.rest.now c.is_empty.result c.is_empty.ensures c.loop-rest-test.true) c.cut_word.ensures.first c.cut_word.ensures.rest (sym c.is_empty-in-loop-rest.ensures ∙ c.if-not-is_empty.true) c.in-Ok.ensures

pub loop-rest-preserved : goal.loop-rest-preserved
loop-rest-preserved c = c.loop-rest.invariant ∙ words_passed with_line_word (view_line_words c.loop-rest.words) c.loop-rest.rest.now c.cut_word.result.0.now c.cut_word.result.1.now (some_bytes c.loop-rest.rest.now c.is_empty.result c.is_empty.ensures c.loop-rest-test.true) c.cut_word.ensures.first c.cut_word.ensures.rest (sym c.is_empty-in-loop-rest.ensures ∙ c.if-not-is_empty.false)

pub returns : goal.returns
returns c = let none = no_bytes c.loop-rest.rest.now c.is_empty.result c.is_empty.ensures c.loop-rest-test.false in c.loop-rest.invariant ∙ rw none (words_at_end with_line_word (view_line_words c.loop-rest.words))
