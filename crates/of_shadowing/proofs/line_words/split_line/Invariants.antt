use Rattle.std.proofs.Common.{◌≡◌, length}
use Rattle.of_ovs_words.specs.Words.{words_from}
use Rattle.of_ovs_lines.specs.LineContents.{with_words}
use Rattle.of_shadowing.specs.{LineWords.no_line_words, LineWords.with_line_word, LineWordViews.view_line_words}
use Rattle.of_shadowing.proofs.line_words.split_line.Given as goal

abbrev pub decreases-loop-rest : goal.decreases-loop-rest
decreases-loop-rest l = length l.rest

abbrev pub invariant-loop-rest : goal.invariant-loop-rest
invariant-loop-rest l = with_words with_line_word no_line_words (words_from 0 l.text) ≡ with_words with_line_word (view_line_words l.words) (words_from 0 l.rest)
