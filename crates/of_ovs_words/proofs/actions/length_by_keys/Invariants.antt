use Rattle.std.proofs.Common.{◌≡◌, length}
use Rattle.of_ovs_words.specs.{Words.words_from, Outcomes.through_words, Actions.with_key}
use Rattle.of_ovs_words.proofs.actions.length_by_keys.Given as goal

abbrev pub decreases-loop-rest : goal.decreases-loop-rest
decreases-loop-rest l = length l.rest

abbrev pub invariant-loop-rest : goal.invariant-loop-rest
invariant-loop-rest l = through_words with_key 65535 (words_from 0 l.words) ≡ through_words with_key l.len (words_from 0 l.rest)
