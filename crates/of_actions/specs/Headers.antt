-- The headers of instructions (OpenFlow 1.3.5, 7.2.4).
use Rattle.std.specs.Prelude.{ℕ, ◌-◌, ◌%◌, ◌==◌, nat_lt, nat_le, Bool, true, not, ◌&&◌, ◌||◌, List, [], ◌∷◌, length, take, drop, Option, Some, None, if◌then◌else◌}
use Rattle.of_wire.specs.declared.codes.TheConstants.{OFPBIC_BAD_EXPERIMENTER, OFPBIC_BAD_LEN, OFPBIC_BAD_TABLE_ID, OFPBIC_UNKNOWN_INST, OFPBIC_UNSUP_INST}
use Rattle.of_wire.specs.{declared.code.Code.Code, Items.Items, Items.AreItems, Numbered.is_used}
use Rattle.of_formats.specs.Structs.{numbers, size}
use Rattle.of_formats.specs.Tables as tables
use Rattle.of_actions.specs.Beginnings.{type_at, len_at, argument_at}

-- an instruction whose actions are not read yet: of WRITE_ACTIONS and APPLY_ACTIONS the bytes of their actions
pub data Header : Type 0 where
  goto : ℕ → Header
  metadata : ℕ → ℕ → Header
  write : List ℕ → Header
  apply : List ℕ → Header
  clear : Header

-- its type on the wire
abbrev pub kind_of : Header → ℕ
kind_of (goto table) = 1
kind_of (metadata value mask) = 2
kind_of (write bytes) = 3
kind_of (apply bytes) = 4
kind_of clear = 5

abbrev pub is_known : ℕ → Bool
is_known kind = nat_le 1 kind && nat_le kind 5

-- GOTO_TABLE and CLEAR_ACTIONS have 8 bytes, WRITE_METADATA has 24, and the other types have any size
abbrev pub is_size : ℕ → ℕ → Bool
is_size kind len = if (kind == 1) || (kind == 5) then len == 8 else if kind == 2 then len == 24 else true

-- the table of a GOTO_TABLE
abbrev pub goto_table_at : List ℕ → ℕ
goto_table_at rest = argument_at tables.instruction_goto_table rest

-- a table that an entry of this table may lead to: a later one of the 16
abbrev pub is_next : ℕ → ℕ → Bool
is_next table to = nat_lt table to && nat_lt to 16

-- The refusals of the instruction that begins `rest`, in order, after those of the headers `seen` (7.4.4): OFPBIC_BAD_LEN, OFPBIC_UNSUP_INST for a METER, OFPBIC_BAD_EXPERIMENTER, OFPBIC_UNKNOWN_INST, OFPBIC_UNSUP_INST for the second of a type, and OFPBIC_BAD_TABLE_ID.
unfoldable pub header_refusals : ℕ → List Header → List ℕ → List (Bool × Code)
header_refusals table seen rest =
    (nat_lt (length rest) 4, OFPBIC_BAD_LEN)
    ∷ (nat_lt (len_at rest) 8 || not (len_at rest % 8 == 0) || nat_lt (length rest) (len_at rest), OFPBIC_BAD_LEN)
    ∷ (not (is_size (type_at rest) (len_at rest)), OFPBIC_BAD_LEN)
    ∷ (type_at rest == 6, OFPBIC_UNSUP_INST)
    ∷ (type_at rest == 0xffff, OFPBIC_BAD_EXPERIMENTER)
    ∷ (not (is_known (type_at rest)), OFPBIC_UNKNOWN_INST)
    ∷ (is_used kind_of (type_at rest) seen, OFPBIC_UNSUP_INST)
    ∷ ((type_at rest == 1) && not (is_next table (goto_table_at rest)), OFPBIC_BAD_TABLE_ID)
    ∷ []

-- the bytes of its actions, which follow its struct
abbrev pub actions_at : List ℕ → List ℕ
actions_at rest = take (len_at rest - size tables.instruction_actions) (drop (size tables.instruction_actions) rest)

-- what the numbers of its struct say
abbrev pub metadata_of : List ℕ → Option Header
metadata_of (type ∷ len ∷ value ∷ mask ∷ []) = Some (metadata value mask)
metadata_of other = None

-- the header, where it is not refused: GOTO_TABLE, WRITE_METADATA, WRITE_ACTIONS, APPLY_ACTIONS, CLEAR_ACTIONS
unfoldable pub header_at : List ℕ → Option Header
header_at rest =
    if type_at rest == 1 then Some (goto (goto_table_at rest))
    else if type_at rest == 2 then metadata_of (numbers tables.instruction_write_metadata 0 rest)
    else if type_at rest == 3 then Some (write (actions_at rest))
    else if type_at rest == 4 then Some (apply (actions_at rest))
    else if type_at rest == 5 then Some clear
    else None

abbrev pub headers_of : ℕ → Items Header
headers_of table = record { refusals = header_refusals table; value_at = header_at; size_at = len_at }

-- after the headers `seen`, bytes are instructions with these headers, and then they end or have a fault
abbrev pub AreHeaders : ℕ → List Header → List ℕ → List Header → Option Code → Type 0
AreHeaders table = AreItems (headers_of table)
