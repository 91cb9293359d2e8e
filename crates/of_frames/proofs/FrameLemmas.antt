-- The frame with given fields.
use Rattle.std.proofs.Common.{◌≡◌, ℕ, ◌*◌, ◌/◌, List, length, sym, ap, ◌∙◌, arith, subst}
use Rattle.of_layers.specs.{Bits.bits_of, declared.field.Field.Field, Layers.Layers, Layers.cells, Layers.encoded, Reading.layers_of, WellFormed.AreBytes}
use Rattle.of_layers.proofs.FrameLemmas.{only_layers}
use Rattle.of_headers.specs.{FieldMap.field_map, Places.width}
use Rattle.of_rewrite.{specs.Frames.IsFrame, proofs.Framing.bytes_are, proofs.Framing.bytes_below, proofs.Framing.length_in}
use Rattle.of_frames.specs.{declared.shape.Shape.Shape, declared.shape.Tagging.Tagging, Given.fields_given, Packets.layers_given, Packets.frame_given, Packets.frame_size}
use Rattle.of_frames.proofs.{FitLemmas.layers_fit, FieldLemmas.fields_are, FieldLemmas.width_is, OctetLemmas.bits_back}

-- bytes that encode the layers with given fields are that frame
pub frame_is : (s : Shape) (t : Tagging) (v : Field → ℕ) (frame : List ℕ) → AreBytes frame → bits_of frame ≡ encoded (cells (layers_given s t v)) → frame ≡ frame_given s t v
unfolding frame_given
frame_is s t v frame b e = bytes_are (cells (layers_given s t v)) frame b e

eighth : (w n : ℕ) → w ≡ 8 * n → w / 8 ≡ n
eighth w n e = omega arith

pub given_size : (s : Shape) (t : Tagging) (v : Field → ℕ) → length (frame_given s t v) ≡ frame_size s t
unfolding frame_given
given_size s t v = length_in (cells (layers_given s t v)) ∙ eighth (width (cells (layers_given s t v))) (frame_size s t) (width_is s t v)

given_bytes : (s : Shape) (t : Tagging) (v : Field → ℕ) → AreBytes (frame_given s t v)
unfolding frame_given
given_bytes s t v = bytes_below (cells (layers_given s t v))

pub given_frame : (s : Shape) (t : Tagging) (v : Field → ℕ) → IsFrame (frame_given s t v)
given_frame s t v = let size : length (frame_given s t v) ≡ frame_size s t = given_size s t v in (omega arith, given_bytes s t v)

pub given_layers : (s : Shape) (t : Tagging) (v : Field → ℕ) → layers_of (frame_given s t v) ≡ layers_given s t v
unfolding frame_given
given_layers s t v =
    sym (only_layers (layers_given s t v) (frame_given s t v) (layers_fit s t v) (bytes_below (cells (layers_given s t v))) (bits_back (cells (layers_given s t v)) (frame_size s t) (width_is s t v)))

pub given_fields : (s : Shape) (t : Tagging) (v : Field → ℕ) (port metadata : ℕ) → field_map (layers_of (frame_given s t v)) port metadata ≡ fields_given s t v port metadata
given_fields s t v port metadata = ap (λ (l : Layers). field_map l port metadata) (given_layers s t v) ∙ fields_are s t v port metadata

-- what a frame is that is that one
pub record IsMade (s : Shape) (t : Tagging) (v : Field → ℕ) (made : List ℕ) : Type 0 where
  pub bytes : made ≡ frame_given s t v
  pub frame : IsFrame made
  pub size : length made ≡ frame_size s t
  pub layers : layers_of made ≡ layers_given s t v
  pub fields : (port metadata : ℕ) → field_map (layers_of made) port metadata ≡ fields_given s t v port metadata

pub made : (s : Shape) (t : Tagging) (v : Field → ℕ) (frame : List ℕ) → frame ≡ frame_given s t v → IsMade s t v frame
made s t v frame e = record {
  bytes = e;
  frame = subst IsFrame (sym e) (given_frame s t v);
  size = ap length e ∙ given_size s t v;
  layers = ap layers_of e ∙ given_layers s t v;
  fields = λ port metadata. ap (λ (x : List ℕ). field_map (layers_of x) port metadata) e ∙ given_fields s t v port metadata;
}
