use Rattle.std.proofs.Common.{◌≡◌, length}
use Rattle.of_ovs_words.specs.Words.{words_from}
use Rattle.of_ovs_lines.specs.LineContents.{with_words}
use Rattle.of_ovs_text.specs.{PacketOuts.packet_out_words, PacketOuts.with_packet_word, PacketViews.view_packet_words}
use Rattle.of_ovs_text.proofs.packet_out.words_of.Given as goal

abbrev pub decreases-loop-rest : goal.decreases-loop-rest
decreases-loop-rest l = length l.rest

abbrev pub invariant-loop-rest : goal.invariant-loop-rest
invariant-loop-rest l = packet_out_words l.text ≡ with_words with_packet_word (view_packet_words l.words) (words_from 0 l.rest)
