use Rattle.std.proofs.Common.{◌≡◌, length}
use Rattle.of_ovs_words.specs.Words.{words_from}
use Rattle.of_frame_words.specs.{Frames.IsReadable, Frames.with_ttl_words, Views.view_received}
use Rattle.of_frame_words.proofs.frame.with_ttl_words.Given as goal

abbrev pub decreases-loop-rest : goal.decreases-loop-rest
decreases-loop-rest l = length l.rest

abbrev pub invariant-loop-rest : goal.invariant-loop-rest
invariant-loop-rest l = IsReadable l.received.frame.items × (with_ttl_words (words_from 0 l.text) (view_received l.fn.received) ≡ with_ttl_words (words_from 0 l.rest) (view_received l.received))
