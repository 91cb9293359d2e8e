-- The fields of a frame of which a tag was pushed or popped.
use Rattle.std.proofs.Common.{◌≡◌, ℕ, List, ◌∷◌, sym, ap, ◌∙◌}
use Rattle.std.specs.Prelude.{IsTrue}
use Rattle.of_layers.{specs.declared.field.Field.Field, specs.Layers.Layers, specs.Reading.is_tag_type, specs.Reading.layers_of, proofs.FrameLemmas.are_layers}
use Rattle.of_headers.specs.{FieldMap.field_map, Tags.inner_tags, Tags.tag_before}
use Rattle.of_rewrite.{specs.Frames.IsFrame, specs.Frames.frame_popped, specs.Frames.frame_pushed, proofs.Framing.pushed_frame, proofs.Framing.popped_frame}
use Rattle.of_rewrite.proofs.Layering.{layers_after_push, layers_after_pop}
use Rattle.of_laws.{specs.Rewritten.fields_tagged, proofs.Tagging.other_tags}

pub tags_pushed : (type : ℕ) (frame : List ℕ) → IsFrame frame → IsTrue (is_tag_type type) → (layers_of (frame_pushed type frame)).tags ≡ tag_before type (layers_of frame).tags ∷ (layers_of frame).tags
tags_pushed type frame h tag = ap (λ (l : Layers). l.tags) (layers_after_push type frame h tag)

pub after_push : (type : ℕ) (frame : List ℕ) (port metadata : ℕ) (g : Field) → IsFrame frame → IsTrue (is_tag_type type) →
    field_map (layers_of (frame_pushed type frame)) port metadata g ≡ fields_tagged (layers_of (frame_pushed type frame)).tags (field_map (layers_of frame) port metadata) g
after_push type frame port metadata g h tag =
    let is = layers_after_push type frame h tag in
    let there = (pushed_frame type frame h).1 in
    other_tags (layers_of frame) (layers_of (frame_pushed type frame)) port metadata g (are_layers (frame_pushed type frame) there.1 there.0)
    (is ∙ ap (λ (ts : List (List ℕ)). record (layers_of frame) { tags = ts }) (sym (tags_pushed type frame h tag)))

pub tags_popped : (frame : List ℕ) → IsFrame frame → (layers_of (frame_popped frame)).tags ≡ inner_tags (layers_of frame).tags
tags_popped frame h = ap (λ (l : Layers). l.tags) (layers_after_pop frame h)

pub after_pop : (frame : List ℕ) (port metadata : ℕ) (g : Field) → IsFrame frame →
    field_map (layers_of (frame_popped frame)) port metadata g ≡ fields_tagged (layers_of (frame_popped frame)).tags (field_map (layers_of frame) port metadata) g
after_pop frame port metadata g h =
    let is = layers_after_pop frame h in
    let there = (popped_frame frame h).1 in
    other_tags (layers_of frame) (layers_of (frame_popped frame)) port metadata g (are_layers (frame_popped frame) there.1 there.0)
    (is ∙ ap (λ (ts : List (List ℕ)). record (layers_of frame) { tags = ts }) (sym (tags_popped frame h)))
