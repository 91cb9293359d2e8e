-- The words of a frame.
use Rattle.std.proofs.Common.{◌≡◌, ℕ, List, ◌++◌, Result, subst}
use Rattle.std.specs.Prelude.{OnOk}
use Rattle.of_layers.specs.{declared.field.Field.Field, Fields.row_of}
use Rattle.of_headers.specs.{declared.key.FieldKey.FieldKey, FieldMap.value}
use Rattle.of_frames.{specs.declared.shape.Shape.Shape, specs.Given.or_zero, proofs.KeyLemmas.numbers_are}
use Rattle.of_frame_words.specs.{Frames.shape_by, Printed.protocol_said, Printed.shape_said}

-- the protocol of a key's numbers
pub protocol_is : {E : Type 0} (r : Result (Unit {0}) E) (key : FieldKey) (shape : Shape) (out new : List ℕ) → shape ≡ shape_by key.numbers.eth_type key.numbers.ip_proto → OnOk r (new ≡ out ++ shape_said shape key.numbers.eth_type key.numbers.ip_proto) →
    OnOk r (new ≡ out ++ protocol_said (or_zero (value key)))
unfolding row_of
protocol_is r key shape out new s h =
    subst (λ (v : Field → ℕ). OnOk r (new ≡ out ++ protocol_said v)) (numbers_are key)
    (subst (λ (x : Shape). OnOk r (new ≡ out ++ shape_said x key.numbers.eth_type key.numbers.ip_proto)) s h)
