-- FIELDS AS A FLOW MAY HAVE THEM: each with a mask that is kept, in ascending order of number, with their prerequisites (OpenFlow 1.3.5, 7.2.3.5 and 7.2.3.6).
use Rattle.std.specs.Prelude.{ℕ, ◌==◌, ◌&&◌, nat_lt, nat_le, Bool, true, List, [], ◌∷◌, bit_and, Option, Some, None}
use Rattle.std.specs.List.{list_all}
use Rattle.of_layers.specs.{declared.field.Field.Field, Fields.is_maskable, Fields.number_of, Fields.ones_of}
use Rattle.of_oxm.specs.{declared.match_field.MatchField.MatchField, Prerequisites.prerequisites_met}

-- some bits of the field and not all, and no others; and the value has no bit outside
abbrev pub is_kept_mask : Field → ℕ → Option ℕ → Bool
is_kept_mask f value None = true
is_kept_mask f value (Some mask) = is_maskable f && nat_lt 0 mask && nat_lt mask (ones_of f) && (bit_and mask (ones_of f) == mask) && (bit_and value mask == value)

abbrev pub is_kept : MatchField → Bool
is_kept e = nat_le e.value (ones_of e.field) && is_kept_mask e.field e.value e.mask

abbrev pub rises_by_number : List MatchField → Bool
rises_by_number [] = true
rises_by_number (e ∷ es) = list_all (λ x. nat_lt (number_of e.field) (number_of x.field)) es && rises_by_number es

abbrev pub is_match : List MatchField → Bool
is_match fields = list_all is_kept fields && rises_by_number fields && prerequisites_met fields
