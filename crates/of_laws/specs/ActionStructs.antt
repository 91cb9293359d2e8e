-- The structs of actions (OpenFlow 1.3.5, 7.2.5).
use Rattle.std.specs.Prelude.{◌≡◌, ℕ, ◌+◌, ◌*◌, ◌-◌, List, [], ◌∷◌, drop, map}
use Rattle.of_layers.specs.Fields.{bytes_of, number_of}
use Rattle.of_actions.specs.declared.argument.Argument.TheVariants.{Nothing, Byte, Tag, Word, Port, Field}
use Rattle.of_actions.specs.{declared.action.Action.Action, declared.argument.Argument.Argument, declared.rows.TheConstants.ACTIONS, Rows.said, SetField.set_len}
use Rattle.of_formats.specs.Tables as tables
use Rattle.of_laws.specs.{Cells.StructCell, Cells.u16_cell, Cells.Begins, StructCells.cells_of}

-- OFPAT_*
abbrev pub action_type : Action → ℕ
action_type a = (said a).0.kind

-- all of them
abbrev pub action_types : List ℕ
action_types = map (λ r. r.kind) ACTIONS

-- after the type the length of the action, its values, and padding; a SET_FIELD has an OXM field of class 0x8000 without a mask (7.2.3.2)
abbrev pub said_cells : Argument → List StructCell
said_cells Nothing = cells_of (drop 1 tables.action_header) (8 ∷ []) []
said_cells (Byte n) = cells_of (drop 1 tables.action_nw_ttl) (8 ∷ n ∷ []) []
said_cells (Tag type) = cells_of (drop 1 tables.action_push) (8 ∷ type ∷ []) []
said_cells (Word n) = cells_of (drop 1 tables.action_group) (8 ∷ n ∷ []) []
said_cells (Port port max_len) = cells_of (drop 1 tables.action_output) (16 ∷ port ∷ max_len ∷ []) []
said_cells (Field f value) =
    cells_of (drop 1 (tables.action_set_field (bytes_of f) (set_len f - (8 + bytes_of f)))) (set_len f ∷ 0x8000 ∷ 2 * number_of f ∷ bytes_of f ∷ value ∷ []) []

abbrev pub action_cells : Action → List StructCell
action_cells a = u16_cell (action_type a) ∷ said_cells (said a).1

-- bytes are the structs of these actions, one after the other, whatever their padding is
abbrev pub AreStructs : List Action → List ℕ → Type 0
AreStructs [] bytes = bytes ≡ []
AreStructs (a ∷ actions) bytes = (rest : List ℕ) × Begins (action_cells a) bytes rest × AreStructs actions rest
