use Rattle.std.proofs.Common.{◌≡◌, length}
use Rattle.of_ovs_words.specs.Words.{words_from}
use Rattle.of_ovs_lines.specs.{LineContents.with_later_word, LineContents.with_words, PartialFlowViews.view_partial_flow}
use Rattle.of_ovs_lines.proofs.line.add_later_words.Given as goal

abbrev pub decreases-loop-rest : goal.decreases-loop-rest
decreases-loop-rest l = length l.rest

abbrev pub invariant-loop-rest : goal.invariant-loop-rest
invariant-loop-rest l = with_words with_later_word (view_partial_flow l.fn.partial) (words_from 0 l.text) ≡ with_words with_later_word (view_partial_flow l.partial) (words_from 0 l.rest)
