use Rattle.std.proofs.Common.{◌≡◌, length}
use Rattle.of_ovs_words.specs.Words.{words_from}
use Rattle.of_frame_words.specs.Said.{with_setting_words}
use Rattle.of_frame_words.proofs.words.add_words.Given as goal

abbrev pub decreases-loop-rest : goal.decreases-loop-rest
decreases-loop-rest l = length l.rest

abbrev pub invariant-loop-rest : goal.invariant-loop-rest
invariant-loop-rest l = with_setting_words l.masks l.fn.settings.items (words_from 0 l.text) ≡ with_setting_words l.masks l.settings.items (words_from 0 l.rest)
