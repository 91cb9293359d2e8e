-- Instructions as an entry keeps them (OpenFlow 1.3.5, 5.9 and 7.2.4).
use Rattle.std.specs.Prelude.{ℕ, ◌^◌, nat_lt, Bool, true, false, ◌&&◌, List}
use Rattle.std.specs.List.{list_all}
use Rattle.of_actions.specs.declared.instruction.Instruction.TheVariants.{Apply, Clear, Write, Metadata, Goto}
use Rattle.of_actions.specs.{declared.instruction.Instruction.Instruction, Rising.is_ascending, Supported.are_supported}

-- the type of an instruction on the wire
abbrev pub type_of_instruction : Instruction → ℕ
type_of_instruction (Goto table) = 1
type_of_instruction (Metadata value mask) = 2
type_of_instruction (Write actions) = 3
type_of_instruction (Apply actions) = 4
type_of_instruction Clear = 5

-- the order of execution (5.9): APPLY_ACTIONS, CLEAR_ACTIONS, WRITE_ACTIONS, WRITE_METADATA, GOTO_TABLE
abbrev pub run_place : Instruction → ℕ
run_place (Apply actions) = 0
run_place Clear = 1
run_place (Write actions) = 2
run_place (Metadata value mask) = 3
run_place (Goto table) = 4

-- an instruction whose actions are supported, whose numbers fit their bytes, and whose table exists
abbrev pub is_served_body : Instruction → Bool
is_served_body (Apply actions) = are_supported false actions
is_served_body Clear = true
is_served_body (Write actions) = are_supported false actions
is_served_body (Metadata value mask) = nat_lt value (2 ^ 64) && nat_lt mask (2 ^ 64)
is_served_body (Goto table) = nat_lt table 16

-- one of a type, in the order of execution, each supported
abbrev pub are_kept : List Instruction → Bool
are_kept instructions = is_ascending run_place instructions && list_all is_served_body instructions

-- an entry of the table may have it: GOTO_TABLE leads to a later table
abbrev pub is_for : ℕ → Instruction → Bool
is_for table (Goto to) = nat_lt table to
is_for table other = true

abbrev pub are_for : ℕ → List Instruction → Bool
are_for table instructions = list_all (is_for table) instructions
