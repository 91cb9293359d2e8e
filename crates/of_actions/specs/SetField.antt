-- The field in a set-field action: OXM class 0x8000, the field's number (7 bits) and no mask (1 bit), the length of the value, and the value (OpenFlow 1.3.5, 7.2.3.2 and 7.2.5).
use Rattle.std.specs.Prelude.{ℕ, ◌+◌, ◌/◌, ◌*◌, ◌%◌, ◌==◌, nat_lt, Bool, true, not, ◌&&◌, ◌||◌, List, [], ◌∷◌, drop, slice_index, Option, Some, None, if◌then◌else◌}
use Rattle.std.specs.Option.{option_map_or}
use Rattle.byteorder.specs.Endian.{big_number}
use Rattle.of_wire.specs.declared.codes.TheConstants.{OFPBAC_BAD_SET_ARGUMENT, OFPBAC_BAD_SET_LEN, OFPBAC_BAD_SET_TYPE}
use Rattle.of_wire.specs.declared.code.Code.{Code}
use Rattle.of_layers.specs.{declared.field.Field.Field, Fields.bytes_of, Fields.ones_of, Fields.is_settable, Fields.field_at}
use Rattle.of_actions.specs.Beginnings.{len_at}

abbrev pub settable : Option Field → Option Field
settable None = None
settable (Some f) = if is_settable f then Some f else None

-- the field that the action sets: one of class 0x8000 that may be set, with no mask
abbrev pub set_field_at : List ℕ → Option Field
set_field_at rest = if (big_number 2 (drop 4 rest) == 0x8000) && (slice_index rest 6 % 2 == 0) then settable (field_at (slice_index rest 6 / 2)) else None

abbrev pub set_value_at : Field → List ℕ → ℕ
set_value_at f rest = big_number (bytes_of f) (drop 8 rest)

-- the length of the action: 8 bytes and the value, up to a multiple of 8
abbrev pub set_len : Field → ℕ
set_len f = (8 + bytes_of f + 7) / 8 * 8

abbrev pub known_set_refusals : List ℕ → Field → List (Bool × Code)
known_set_refusals rest f =
    (not (slice_index rest 7 == bytes_of f) || not (len_at rest == set_len f), OFPBAC_BAD_SET_LEN)
    ∷ (nat_lt (ones_of f) (set_value_at f rest), OFPBAC_BAD_SET_ARGUMENT)
    ∷ []

-- its refusals, in order (7.4.4): OFPBAC_BAD_SET_TYPE, OFPBAC_BAD_SET_LEN and OFPBAC_BAD_SET_ARGUMENT
unfoldable pub set_refusals : List ℕ → List (Bool × Code)
set_refusals rest = option_map_or (known_set_refusals rest) (set_field_at rest) ((true, OFPBAC_BAD_SET_TYPE) ∷ [])
