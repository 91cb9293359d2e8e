-- The structs of instructions (OpenFlow 1.3.5, 7.2.4).
use Rattle.std.specs.Prelude.{◌≡◌, ℕ, ◌+◌, true, List, [], ◌∷◌, ◌++◌, length}
use Rattle.of_wire.specs.Numbered.{is_distinct}
use Rattle.of_actions.specs.declared.instruction.Instruction.TheVariants.{Apply, Clear, Write, Metadata, Goto}
use Rattle.of_actions.specs.{declared.action.Action.Action, declared.instruction.Instruction.Instruction, RunOrder.in_run_order}
use Rattle.of_laws.specs.{ActionStructs.AreStructs, StructCells.cells_of, Cells.StructCell, Cells.Begins}
use Rattle.of_formats.specs.Tables as tables

-- OFPIT_*
abbrev pub instruction_type : Instruction → ℕ
instruction_type (Goto table) = 1
instruction_type (Metadata value mask) = 2
instruction_type (Write actions) = 3
instruction_type (Apply actions) = 4
instruction_type Clear = 5

-- after the type the length of the instruction, of whose actions there are so many bytes, what it says, and padding
abbrev pub instruction_cells : Instruction → ℕ → List StructCell
instruction_cells (Goto table) size = cells_of tables.instruction_goto_table (1 ∷ 8 ∷ table ∷ []) []
instruction_cells (Metadata value mask) size = cells_of tables.instruction_write_metadata (2 ∷ 24 ∷ value ∷ mask ∷ []) []
instruction_cells (Write actions) size = cells_of tables.instruction_actions (3 ∷ (8 + size) ∷ []) []
instruction_cells (Apply actions) size = cells_of tables.instruction_actions (4 ∷ (8 + size) ∷ []) []
instruction_cells Clear size = cells_of tables.instruction_actions (5 ∷ 8 ∷ []) []

-- its actions follow
abbrev pub actions_of_instruction : Instruction → List Action
actions_of_instruction (Goto table) = []
actions_of_instruction (Metadata value mask) = []
actions_of_instruction (Write actions) = actions
actions_of_instruction (Apply actions) = actions
actions_of_instruction Clear = []

-- the bytes begin with the struct of this instruction, whatever its padding is, and then comes the rest
pub record IsInstruction (i : Instruction) (bytes rest : List ℕ) : Type 0 where
  pub actions : List ℕ
  pub front : Begins (instruction_cells i (length actions)) bytes (actions ++ rest)
  pub are : AreStructs (actions_of_instruction i) actions

-- bytes are the structs of these instructions, one after the other
abbrev pub AreInstructions : List Instruction → List ℕ → Type 0
AreInstructions [] bytes = bytes ≡ []
AreInstructions (i ∷ is) bytes = (rest : List ℕ) × IsInstruction i bytes rest × AreInstructions is rest

-- bytes are the structs of these instructions in any order, no two of one type; the list has them in the order of execution (5.9)
pub record AreInAnyOrder (instructions : List Instruction) (bytes : List ℕ) : Type 0 where
  pub message : List Instruction
  pub structs : AreInstructions message bytes
  pub once : is_distinct instruction_type message ≡ true
  pub order : instructions ≡ in_run_order message
