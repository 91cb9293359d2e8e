-- What is known of fields, one after the other.
use Rattle.std.specs.Prelude.{◌≡◌, List, Option, None}
use Rattle.of_layers.specs.{declared.field.Field.Field, Fields.ones_of}
use Rattle.of_headers.specs.FieldMap.{value}
use Rattle.of_oxm.specs.{Masks.mask_at, Masks.looked_at, Masks.value_of, declared.match_field.MatchField.MatchField}
use Rattle.of_frames.specs.{declared.shape.Shape.Shape, declared.shape.Tagging.Tagging}
use Rattle.of_regions.specs.{declared.building.Fields.Fields, declared.joining.Bits.Bits, Joining.Joined, Known.rule_in}

abbrev pub bits_at : Fields → Field → Bits
bits_at fields f = record { mask = mask_at fields.masks f; known = value fields.known f }

-- nothing is known of a field
abbrev pub IsUnknown : Fields → Field → Type 0
IsUnknown fields f = (mask_at fields.masks f ≡ None) × (value fields.known f ≡ None)

-- what is known of all fields but one is the same
abbrev pub AreOthers : Fields → Field → Fields → Type 0
AreOthers old field new = (f : Field) → ¬ (f ≡ field) → bits_at new f ≡ bits_at old f

-- what is known of a field is what a shape and a tagging say, and a match asks
abbrev pub IsBegunField : Shape → Option Tagging → List MatchField → Fields → Field → Type 0
IsBegunField s t m fields f = Joined (ones_of f) (rule_in s t f) (looked_at m f) (value_of m f) (bits_at fields f)
