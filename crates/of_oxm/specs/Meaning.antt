-- What a match means as it is encoded (OpenFlow 1.3.5, 7.2.3.5): each of its fields looks at the bits of its mask, and one whose mask has none looks at nothing.
use Rattle.std.specs.Prelude.{ℕ, Bool, ◌==◌, ◌||◌, List, Option, Some, None, bit_and, unwrap_or}
use Rattle.std.specs.List.{list_all}
use Rattle.of_layers.specs.{declared.field.Field.Field, Fields.ones_of}
use Rattle.of_oxm.specs.declared.match_field.MatchField.{MatchField}

-- the bits that a field looks at as it is encoded: those of its mask that the field has; without a mask all
abbrev pub meant_bits : MatchField → ℕ
meant_bits e = bit_and (unwrap_or e.mask (ones_of e.field)) (ones_of e.field)

-- a value, or that there is none, agrees with this value in these bits; with no bits anything does
abbrev pub meets_by : ℕ → ℕ → Option ℕ → Bool
meets_by bits value None = bits == 0
meets_by bits value (Some v) = bits == 0 || bit_and v bits == value

abbrev pub field_meets : MatchField → Option ℕ → Bool
field_meets e o = meets_by (meant_bits e) e.value o

-- a field map agrees with each field as it is encoded
abbrev pub are_met : List MatchField → (Field → Option ℕ) → Bool
are_met es map = list_all (λ e. field_meets e (map e.field)) es
