-- The header of a message (OpenFlow 1.3.5, 7.1), and the refusals before its body is read (7.4.4).
use Rattle.std.specs.Prelude.{◌≡◌, ◌≤◌, ℕ, ◌+◌, ◌==◌, nat_lt, Bool, true, false, not, ◌&&◌, ◌||◌, List, [], ◌∷◌, length, drop, slice_index, Option, Some, None, is_some, if◌then◌else◌}
use Rattle.std.specs.Option.{option_map}
use Rattle.byteorder.specs.Endian.{big_number}
use Rattle.of_wire.specs.declared.codes.TheConstants.{OFPBRC_BAD_EXPERIMENTER, OFPBRC_BAD_LEN, OFPBRC_BAD_TYPE, OFPBRC_BAD_VERSION, OFPBRC_IS_SLAVE}
use Rattle.of_wire.specs.declared.code.Code.{Code}
use Rattle.of_formats.specs.{declared.messages.MessageRow.MessageRow, declared.messages.Size.Size, declared.messages.Size.TheVariants.Exact, declared.messages.Size.TheVariants.Least}
use Rattle.of_formats.specs.declared.messages.TheConstants.{EXPERIMENTER, HELLO, PACKET_OUT}
use Rattle.of_formats.specs.Messages.{is_bad_size, is_read, message_row}
use Rattle.of_messages.specs.{declared.role.Role.Role, declared.role.Role.TheVariants.Equal, declared.role.Role.TheVariants.Master, declared.role.Role.TheVariants.Slave}

abbrev pub version_of : List ℕ → ℕ
version_of m = slice_index m 0

abbrev pub type_of : List ℕ → ℕ
type_of m = slice_index m 1

abbrev pub header_length : List ℕ → ℕ
header_length m = big_number 2 (drop 2 m)

-- the transaction id
abbrev pub xid_of : List ℕ → ℕ
xid_of m = big_number 4 (drop 4 m)

-- SIZES, FROM THE TABLE

abbrev pub if_read : Option MessageRow → Option MessageRow
if_read None = None
if_read (Some row) = if is_read row.way then Some row else None

-- the row of a type that a controller may send
abbrev pub format_of : ℕ → Option MessageRow
format_of type = if_read (message_row type)

-- the size of the messages of a type: exactly so many bytes, or so many at least
abbrev pub size_by_type : ℕ → Option Size
size_by_type type = option_map (λ row. row.size) (format_of type)

abbrev pub is_supported_type : ℕ → Bool
is_supported_type type = is_some (size_by_type type)

-- how many bytes the actions of a PACKET_OUT have
abbrev pub actions_length : List ℕ → ℕ
actions_length m = big_number 2 (drop 16 m)

-- for the length, the version (a HELLO may have any), the type (an EXPERIMENTER has a code of its own), and the size of the type; a PACKET_OUT must hold its actions
abbrev pub head_refusals : List ℕ → List (Bool × Code)
head_refusals m =
    (nat_lt (length m) 8 || not (header_length m == length m), OFPBRC_BAD_LEN)
    ∷ (not (type_of m == HELLO) && not (version_of m == 4), OFPBRC_BAD_VERSION)
    ∷ (type_of m == EXPERIMENTER, OFPBRC_BAD_EXPERIMENTER)
    ∷ (not (is_supported_type (type_of m)), OFPBRC_BAD_TYPE)
    ∷ (is_bad_size (size_by_type (type_of m)) (length m), OFPBRC_BAD_LEN)
    ∷ (type_of m == PACKET_OUT && nat_lt (length m) (24 + actions_length m), OFPBRC_BAD_LEN)
    ∷ []

-- THE ROLE

abbrev pub is_slave : Role → Bool
is_slave Equal = false
is_slave Master = false
is_slave Slave = true

-- the messages that would change the switch or send a packet, which a slave may not send (6.3.4)
abbrev pub changes_by : Option MessageRow → Bool
changes_by None = false
changes_by (Some row) = row.changes

abbrev pub is_change : ℕ → Bool
is_change type = changes_by (format_of type)

-- OFPBRC_IS_SLAVE
abbrev pub role_refusals : Role → List ℕ → List (Bool × Code)
role_refusals role m = (is_slave role && is_change (type_of m), OFPBRC_IS_SLAVE) ∷ []

-- WHAT HOLDS FOR A HEADER that is not refused

-- a size of the table
abbrev pub IsSized : Option Size → ℕ → Type 0
IsSized None k = ⊥
IsSized (Some (Exact n)) k = k ≡ n
IsSized (Some (Least n)) k = n ≤ k

-- a header, a size of the table, and the actions of a PACKET_OUT
pub record HasHead (m : List ℕ) : Type 0 where
  pub header : 8 ≤ length m
  pub most : length m ≤ 65535
  pub sized : IsSized (size_by_type (type_of m)) (length m)
  pub actions : type_of m ≡ PACKET_OUT → 24 + actions_length m ≤ length m
