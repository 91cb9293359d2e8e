use Rattle.std.proofs.Common.{◌≡◌, length}
use Rattle.of_ovs_words.specs.Words.{words_from}
use Rattle.of_ovs_lines.specs.{LineContents.with_words, PartialGroups.with_group_word, PartialGroupViews.view_partial_group}
use Rattle.of_ovs_lines.proofs.line.add_group_words.Given as goal

abbrev pub decreases-loop-rest : goal.decreases-loop-rest
decreases-loop-rest l = length l.rest

abbrev pub invariant-loop-rest : goal.invariant-loop-rest
invariant-loop-rest l = with_words with_group_word (view_partial_group l.fn.partial) (words_from 0 l.text) ≡ with_words with_group_word (view_partial_group l.partial) (words_from 0 l.rest)
