-- What is written of a message.
use Rattle.std.specs.Prelude.{◌≡◌, ℕ, List, [], ◌∷◌, take}
use Rattle.of_formats.specs.Tables as tables
use Rattle.of_messages.specs.{declared.async_masks.RoleMasks.RoleMasks, declared.message.Message.Message}
use Rattle.of_laws.specs.{Cells.StructCell, Grammar.Encodes, StructCells.cells_of, Canonical.canonical_message}

-- its one encoding, which encodes it
pub record IsWritten (xid : ℕ) (m : Message) (bytes : List ℕ) : Type 0 where
  pub text : bytes ≡ canonical_message xid m
  pub encoded : Encodes xid m bytes

-- ---- for contracts inside this crate

-- two masks of a SET_ASYNC: for a master or equal controller, and for a slave (7.3.10)
abbrev pub masks_cells : RoleMasks → List StructCell
masks_cells masks = cells_of (take 2 tables.async_config) (masks.master ∷ masks.slave ∷ []) []
