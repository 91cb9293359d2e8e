use Rattle.std.proofs.Common.{ap, subst}
use Rattle.of_layers.specs.{Bits.bits, WellFormed.AreBytes}
use Rattle.of_frames.{specs.Given.number, specs.Packets.layers_given, proofs.AddingLemmas.from_nothing, proofs.AddingLemmas.same, proofs.AddingLemmas.whole, proofs.FrameLemmas.frame_is}
use Rattle.of_frames.proofs.frame.frame_with.Goals as goal

pub returns : goal.returns
returns c =
    let v = number c.args.numbers.now in
    frame_is c.args.shape c.args.tagging v _ (subst AreBytes c.as_slice.ensures.value c.known_bytes.ensures)
    (whole (layers_given c.args.shape c.args.tagging v) (from_nothing _ _ _ c.new-out.ensures.items c.in_ok-push_ends.ensures) c.in_ok-push_tags.ensures (same _ (ap (bits 16) c.type_of.ensures) c.in_ok-push_word.ensures) c.in_ok-push_body.ensures)
