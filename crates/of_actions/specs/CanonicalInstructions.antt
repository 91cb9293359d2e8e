-- The one encoding of instructions that is written, in the order of the list: padding is zeros (OpenFlow 1.3.5, 7.2.4).
use Rattle.std.specs.Prelude.{ℕ, ◌+◌, List, [], ◌∷◌, ◌++◌, length, take, drop}
use Rattle.std.specs.List.{flat_map}
use Rattle.of_formats.specs.Structs.{written}
use Rattle.of_formats.specs.Tables as tables
use Rattle.of_actions.specs.declared.instruction.Instruction.TheVariants.{Apply, Clear, Write, Metadata, Goto}
use Rattle.of_actions.specs.{declared.instruction.Instruction.Instruction, CanonicalActions.canonical_actions}

-- the length of all, padding and the actions
abbrev pub after_type : List ℕ → List ℕ
after_type actions = written (drop 1 tables.instruction_actions) ((8 + length actions) ∷ []) ++ actions

-- type, length, what the instruction says, padding
unfoldable pub canonical_instruction : Instruction → List ℕ
canonical_instruction (Goto table) = written tables.instruction_goto_table (1 ∷ 8 ∷ table ∷ [])
canonical_instruction (Metadata value mask) = written tables.instruction_write_metadata (2 ∷ 24 ∷ value ∷ mask ∷ [])
canonical_instruction (Write actions) = written (take 1 tables.instruction_actions) (3 ∷ []) ++ after_type (canonical_actions actions)
canonical_instruction (Apply actions) = written (take 1 tables.instruction_actions) (4 ∷ []) ++ after_type (canonical_actions actions)
canonical_instruction Clear = written tables.instruction_actions (5 ∷ 8 ∷ [])

abbrev pub canonical_instructions : List Instruction → List ℕ
canonical_instructions instructions = flat_map canonical_instruction instructions
