use Rattle.std.proofs.Common.{◌∙◌, sym}
use Rattle.of_ovs_words.proofs.WordLemmas.{no_bytes, some_bytes}
use Rattle.of_ovs_lines.proofs.LineLemmas.{words_at_end, words_more, words_passed}
use Rattle.of_ovs_text.specs.{PacketOuts.with_packet_word, PacketViews.view_packet_words}
use Rattle.of_ovs_text.proofs.packet_out.words_of.Goals as goal

pub loop-rest-preserved-in-Ok : goal.loop-rest-preserved-in-Ok
loop-rest-preserved-in-Ok c = c.loop-rest.invariant ∙ words_more with_packet_word (view_packet_words c.loop-rest.words) (view_packet_words c.add_word.new.words) c.loop-rest.rest.now
    c.cut_word.result.0.now c.cut_word.result.1.now (some_bytes c.loop-rest.rest.now c.is_empty.result c.is_empty.ensures c.loop-rest-test.true)
    c.cut_word.ensures.first c.cut_word.ensures.rest (sym c.is_empty-in-loop-rest.ensures ∙ c.if-not-is_empty.true) c.in-Ok.ensures

pub loop-rest-preserved : goal.loop-rest-preserved
loop-rest-preserved c = c.loop-rest.invariant ∙ words_passed with_packet_word (view_packet_words c.loop-rest.words) c.loop-rest.rest.now
    c.cut_word.result.0.now c.cut_word.result.1.now (some_bytes c.loop-rest.rest.now c.is_empty.result c.is_empty.ensures c.loop-rest-test.true)
    c.cut_word.ensures.first c.cut_word.ensures.rest (sym c.is_empty-in-loop-rest.ensures ∙ c.if-not-is_empty.false)

pub returns : goal.returns
returns c = let none = no_bytes c.loop-rest.rest.now c.is_empty.result c.is_empty.ensures c.loop-rest-test.false in
    sym (c.loop-rest.invariant ∙ rw none (words_at_end with_packet_word (view_packet_words c.loop-rest.words)))
