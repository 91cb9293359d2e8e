-- The instructions of a flow entry on the wire (OpenFlow 1.3.5, 5.9 and 7.2.4): first all headers, then the actions in each.
use Rattle.std.specs.Prelude.{◌≡◌, ℕ, false, List, [], ◌∷◌, Option, Some, None}
use Rattle.of_wire.specs.declared.code.Code.{Code}
use Rattle.of_actions.specs.declared.instruction.Instruction.TheVariants.{Apply, Clear, Write, Metadata, Goto}
use Rattle.of_actions.specs.Headers.{Header, goto, metadata, write, apply, clear, AreHeaders}
use Rattle.of_actions.specs.{declared.action.Action.Action, declared.instruction.Instruction.Instruction, Actions.AreActions, RunOrder.in_run_order}

-- the bytes are actions, and the instruction has them
pub record HasActions (bytes : List ℕ) (make : List Action → Instruction) (i : Instruction) : Type 0 where
  pub actions : List Action
  pub encoded : AreActions false [] bytes actions None
  pub is : i ≡ make actions

-- the header begins this instruction
abbrev pub IsInstructionBody : Header → Instruction → Type 0
IsInstructionBody (goto table) i = i ≡ Goto table
IsInstructionBody (metadata value mask) i = i ≡ Metadata value mask
IsInstructionBody (write bytes) i = HasActions bytes Write i
IsInstructionBody (apply bytes) i = HasActions bytes Apply i
IsInstructionBody clear i = i ≡ Clear

-- the actions in it have this fault
abbrev pub HasFault : List ℕ → Option Code → Type 0
HasFault bytes None = ⊥
HasFault bytes (Some code) = (before : List Action) × AreActions false [] bytes before (Some code)

abbrev pub IsFault : Header → Option Code → Type 0
IsFault (goto table) fault = ⊥
IsFault (metadata value mask) fault = ⊥
IsFault (write bytes) fault = HasFault bytes fault
IsFault (apply bytes) fault = HasFault bytes fault
IsFault clear fault = ⊥

-- the headers, in the order of the message, begin these instructions, and then they end or the next has a fault
abbrev pub AreBodies : List Header → List Instruction → Option Code → Type 0
AreBodies [] [] fault = fault ≡ None
AreBodies [] (i ∷ is) fault = ⊥
AreBodies (h ∷ hs) [] fault = IsFault h fault
AreBodies (h ∷ hs) (i ∷ is) fault = IsInstructionBody h i × AreBodies hs is fault

-- The bytes encode these instructions of an entry of the table: no header is refused, each begins its instruction, and the list has them in the order of execution.
pub record EncodesInstructions (table : ℕ) (bytes : List ℕ) (instructions : List Instruction) : Type 0 where
  pub headers : List Header
  pub whole : AreHeaders table [] bytes headers None
  pub message : List Instruction
  pub bodies : AreBodies headers message None
  pub order : instructions ≡ in_run_order message

-- Bytes that encode no instructions have one code: of the first header that is refused, else of the first fault in an instruction, in the order of the message.
pub data IsRefused (table : ℕ) (bytes : List ℕ) (code : Code) : Type 0 where
  header : (before : List Header) → AreHeaders table [] bytes before (Some code) → IsRefused table bytes code
  body : (headers : List Header) → AreHeaders table [] bytes headers None → (before : List Instruction) → AreBodies headers before (Some code) → IsRefused table bytes code
