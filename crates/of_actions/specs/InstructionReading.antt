-- What the bytes of instructions say, as a function: the instructions, or the code of the first refusal (OpenFlow 1.3.5, 7.2.4 and 7.4.4).
use Rattle.std.specs.Prelude.{ℕ, false, List, [], ◌∷◌, length, Result, Ok, Err}
use Rattle.of_wire.specs.{declared.code.Code.Code, Items.items_from}
use Rattle.of_actions.specs.declared.instruction.Instruction.TheVariants.{Apply, Clear, Write, Metadata, Goto}
use Rattle.of_actions.specs.Headers.{Header, goto, metadata, write, apply, clear, headers_of}
use Rattle.of_actions.specs.{declared.action.Action.Action, declared.instruction.Instruction.Instruction, Actions.actions_said, RunOrder.in_run_order}

abbrev pub with_actions_read : (List Action → Instruction) → Result (List Action) Code → Result Instruction Code
with_actions_read make (Ok actions) = Ok (make actions)
with_actions_read make (Err code) = Err code

-- the instruction that a header begins
abbrev pub instruction_of_header : Header → Result Instruction Code
instruction_of_header (goto table) = Ok (Goto table)
instruction_of_header (metadata value mask) = Ok (Metadata value mask)
instruction_of_header (write bytes) = with_actions_read Write (actions_said false bytes)
instruction_of_header (apply bytes) = with_actions_read Apply (actions_said false bytes)
instruction_of_header clear = Ok Clear

abbrev pub instruction_prepended : Result Instruction Code → Result (List Instruction) Code → Result (List Instruction) Code
instruction_prepended (Ok i) (Ok others) = Ok (i ∷ others)
instruction_prepended (Ok i) (Err code) = Err code
instruction_prepended (Err code) others = Err code

-- those of all headers, or the first refusal
abbrev pub bodies_of : List Header → Result (List Instruction) Code
bodies_of [] = Ok []
bodies_of (h ∷ hs) = instruction_prepended (instruction_of_header h) (bodies_of hs)

abbrev pub then_bodies : Result (List Header) Code → Result (List Instruction) Code
then_bodies (Ok hs) = bodies_of hs
then_bodies (Err code) = Err code

abbrev pub then_ordered : Result (List Instruction) Code → Result (List Instruction) Code
then_ordered (Ok instructions) = Ok (in_run_order instructions)
then_ordered (Err code) = Err code

-- all headers are checked before the first action
unfoldable pub instructions_in_bytes : ℕ → List ℕ → Result (List Instruction) Code
instructions_in_bytes table bytes = then_ordered (then_bodies (items_from (headers_of table) (length bytes) [] bytes))
