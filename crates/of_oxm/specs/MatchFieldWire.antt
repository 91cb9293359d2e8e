-- One field of a match on the wire: OXM class 0x8000, the field's number (7 bits) and whether a mask follows (1 bit), the length of what follows, the value, and the mask (OpenFlow 1.3.5, 7.2.3.2).
use Rattle.std.specs.Prelude.{◌≡◌, ℕ, ◌+◌, ◌*◌, ◌/◌, ◌%◌, ◌^◌, ◌<◌, ◌≤◌, ◌==◌, nat_lt, Bool, true, not, ◌&&◌, ◌⊎◌, List, [], ◌∷◌, ◌++◌, length, drop, slice_index, bit_and, Option, Some, None, is_some, IfSome, if◌then◌else◌}
use Rattle.std.specs.{List.list_any, Option.option_map_or}
use Rattle.byteorder.specs.Endian.{big_number, big_bytes}
use Rattle.of_wire.specs.declared.codes.TheConstants.{OFPBMC_BAD_FIELD, OFPBMC_BAD_LEN, OFPBMC_BAD_MASK, OFPBMC_BAD_VALUE, OFPBMC_BAD_WILDCARDS, OFPBMC_DUP_FIELD}
use Rattle.of_wire.specs.declared.code.Code.{Code}
use Rattle.of_layers.specs.Fields.{number_of, bytes_of, ones_of, is_maskable, field_at}
use Rattle.of_layers.specs.declared.field.Field.{Field}
use Rattle.of_oxm.specs.declared.match_field.MatchField.{MatchField}

-- ---- the encoding of a field

-- the value, or the value and a mask of the same size
abbrev pub body_len : Field → Bool → ℕ
body_len f masked = if masked then 2 * bytes_of f else bytes_of f

abbrev pub flag : Option ℕ → ℕ
flag None = 0
flag (Some m) = 1

abbrev pub mask_bytes : ℕ → Option ℕ → List ℕ
mask_bytes n None = []
mask_bytes n (Some m) = big_bytes n m

unfoldable pub encoding : MatchField → List ℕ
encoding e = 128 ∷ 0 ∷ (2 * number_of e.field + flag e.mask) ∷ body_len e.field (is_some e.mask) ∷ (big_bytes (bytes_of e.field) e.value ++ mask_bytes (bytes_of e.field) e.mask)

-- what a mask may be: all ones where the field takes no mask, and no bit of the value is set where the mask has a 0 (7.2.3.5)
pub record IsAllowedMask (f : Field) (value mask : ℕ) : Type 0 where
  pub fits : mask < 256 ^ bytes_of f
  pub allowed : (is_maskable f ≡ true) ⊎ (bit_and mask (ones_of f) ≡ ones_of f)
  pub covers : bit_and value mask ≡ value

-- what has an encoding
pub record IsEncoded (e : MatchField) : Type 0 where
  pub value : e.value ≤ ones_of e.field
  pub mask : IfSome e.mask (IsAllowedMask e.field e.value)

-- ---- what bytes begin with

abbrev pub number_at : List ℕ → ℕ
number_at rest = slice_index rest 2 / 2

abbrev pub is_masked_at : List ℕ → Bool
is_masked_at rest = slice_index rest 2 % 2 == 1

abbrev pub value_at : Field → List ℕ → ℕ
value_at f rest = big_number (bytes_of f) (drop 4 rest)

abbrev pub mask_of_bytes : Field → List ℕ → ℕ
mask_of_bytes f rest = big_number (bytes_of f) (drop (bytes_of f) (drop 4 rest))

abbrev pub match_field_of : Field → List ℕ → MatchField
match_field_of f rest = record { field = f; value = value_at f rest; mask = if is_masked_at rest then Some (mask_of_bytes f rest) else None }

-- ---- what is refused, in order (7.4.4)

-- a field of this number is among them
abbrev pub is_among : Field → List MatchField → Bool
is_among f seen = list_any (λ e. number_of e.field == number_of f) seen

-- the refusals of a field's value and mask: OFPBMC_BAD_MASK, OFPBMC_BAD_VALUE, OFPBMC_BAD_WILDCARDS
abbrev pub value_refusals : Field → Bool → ℕ → ℕ → List (Bool × Code)
value_refusals f masked value mask =
    (masked && not (is_maskable f) && not (bit_and mask (ones_of f) == ones_of f), OFPBMC_BAD_MASK)
    ∷ (nat_lt (ones_of f) value, OFPBMC_BAD_VALUE)
    ∷ (masked && not (bit_and value mask == value), OFPBMC_BAD_WILDCARDS)
    ∷ []

-- the refusals of a known field, after the fields `seen`
abbrev pub known_field_refusals : Field → List MatchField → List ℕ → List (Bool × Code)
known_field_refusals f seen rest =
    let masked = is_masked_at rest in
    (not (slice_index rest 3 == body_len f masked), OFPBMC_BAD_LEN)
    ∷ (is_among f seen, OFPBMC_DUP_FIELD)
    ∷ value_refusals f masked (value_at f rest) (mask_of_bytes f rest)

-- the refusals of the field that bytes begin with, after the fields `seen`
abbrev pub field_refusals : List MatchField → List ℕ → List (Bool × Code)
field_refusals seen rest =
    (nat_lt (length rest) 4, OFPBMC_BAD_LEN)
    ∷ (nat_lt (length rest) (4 + slice_index rest 3), OFPBMC_BAD_LEN)
    ∷ (not (big_number 2 rest == 0x8000), OFPBMC_BAD_FIELD)
    ∷ option_map_or (λ f. known_field_refusals f seen rest) (field_at (number_at rest)) ((true, OFPBMC_BAD_FIELD) ∷ [])
