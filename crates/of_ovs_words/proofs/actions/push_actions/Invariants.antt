use Rattle.std.proofs.Common.{◌≡◌, length, false}
use Rattle.of_ovs_words.specs.{Words.words_from, Actions.with_action_words}
use Rattle.of_ovs_words.proofs.actions.push_actions.Given as goal

abbrev pub decreases-loop-rest : goal.decreases-loop-rest
decreases-loop-rest l = length l.rest

abbrev pub invariant-loop-rest : goal.invariant-loop-rest
invariant-loop-rest l = with_action_words l.settings l.earlier (false, l.fn.done.items) (words_from 0 l.words) ≡ with_action_words l.settings l.earlier (l.dropped, l.done.items) (words_from 0 l.rest)
