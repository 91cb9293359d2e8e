use Rattle.std.proofs.Common.{◌≡◌, length, sym}
use Rattle.std.specs.Prelude.{unwrap_or}
use Rattle.of_layers.specs.Reading.{layers_of}
use Rattle.of_headers.specs.FieldMap.{value}
use Rattle.of_rewrite.specs.Frames.{IsFrame}
use Rattle.of_frames.specs.{declared.shape.Tagging.TheVariants.Untagged, Given.or_zero, Packets.frame_given, Packets.frame_size, Packets.layers_given}
use Rattle.of_regions.{specs.Witness.IsFrameIn, proofs.WitnessLemmas.frame_in, proofs.WitnessLemmas.if_ok}
use Rattle.of_regions.proofs.region.Region.frame.Goals as goal

pub returns : goal.returns
returns c =
    let r = c.args.self.now in
    let t = unwrap_or r.tagging Untagged in
    let tagging : c.unwrap_or-tagging.result ≡ t = c.unwrap_or-tagging.ensures in
    if_ok c.frame_of.result (λ v. IsFrame v.items) (λ v. length v.items ≡ frame_size r.shape t) (λ v. layers_of v.items ≡ layers_given r.shape t (or_zero (value r.known))) (λ v. v.items ≡ frame_given r.shape t (or_zero (value r.known))) (λ v. IsFrameIn r v.items)
    c.frame_of.ensures.frame (rw (sym tagging) c.frame_of.ensures.size) (rw (sym tagging) c.frame_of.ensures.layers) (rw (sym tagging) c.frame_of.ensures.bytes)
    (λ v is size layers bytes. frame_in r v.items is size layers bytes)
