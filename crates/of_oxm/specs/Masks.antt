-- The bits that a match looks at, field by field (OpenFlow 1.3.5, 5.3 and 7.2.3.5).
use Rattle.std.specs.Prelude.{◌≡◌, ℕ, ◌==◌, List, Option}
use Rattle.std.specs.{List.find, Option.option_map}
use Rattle.of_layers.specs.{declared.field.Field.Field, Fields.number_of}
use Rattle.of_headers.specs.FieldMap.{value, seen}
use Rattle.of_oxm.specs.{declared.match_field.MatchField.MatchField, declared.masks.FieldMask.FieldMask, Relations.bits_looked_at}

-- ---- of a match

-- the first match field with the field's number
abbrev pub first_at : List MatchField → Field → Option MatchField
first_at m f = find (λ e. number_of e.field == number_of f) m

-- the bits that a match looks at in a field, or none where it does not look at the field
abbrev pub looked_at : List MatchField → Field → Option ℕ
looked_at m f = option_map bits_looked_at (first_at m f)

-- the value that a match asks for in a field
abbrev pub value_of : List MatchField → Field → Option ℕ
value_of m f = option_map (λ e. e.value) (first_at m f)

-- ---- of a mask for each field

abbrev pub mask_at : FieldMask → Field → Option ℕ
mask_at m f = value m.masks f

-- under the masks two field maps look the same
abbrev pub Agree : (Field → Option ℕ) → (Field → Option ℕ) → (Field → Option ℕ) → Type 0
Agree mask j k = (f : Field) → seen (mask f) (j f) ≡ seen (mask f) (k f)
