use Rattle.std.{specs.List.fold, proofs.Common.◌≡◌, proofs.Common.length}
use Rattle.of_ovs_words.specs.Words.{words_from}
use Rattle.of_ovs_lines.specs.{LineContents.with_word_of_protocol, LineContents.words_before_actions, PartialFlowViews.view_partial_flow}
use Rattle.of_ovs_lines.proofs.line.add_protocol_words.Given as goal

abbrev pub decreases-loop-rest : goal.decreases-loop-rest
decreases-loop-rest l = length l.rest

abbrev pub invariant-loop-rest : goal.invariant-loop-rest
invariant-loop-rest l = fold with_word_of_protocol (view_partial_flow l.fn.partial) (words_before_actions (words_from 0 l.text)) ≡ fold with_word_of_protocol (view_partial_flow l.partial) (words_before_actions (words_from 0 l.rest))
