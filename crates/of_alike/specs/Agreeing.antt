-- For contracts of this crate and of of_diff: switches whose tables are the same from one on, and packets whose work comes only to these (OpenFlow 1.3.5, 5.1).
use Rattle.std.specs.Prelude.{◌≡◌, ℕ, ◌≤◌, ◌==◌, false, List, map, Option, Some, None, ⊤}
use Rattle.std.specs.List.{AllByRecursion}
use Rattle.of_wire.specs.declared.limits.TheConstants.{OFPP_TABLE}
use Rattle.of_layers.specs.declared.field.Field.{Field}
use Rattle.of_actions.specs.declared.instruction.Instruction.TheVariants.{Apply, Clear, Goto, Metadata, Write}
use Rattle.of_actions.specs.{declared.action.Action.Action, declared.action.Action.TheVariants.Output, declared.instruction.Instruction.Instruction}
use Rattle.of_table.specs.declared.flow.Flow.{Flow}
use Rattle.of_machine.specs.Rows.{Act, Do, Lookup, RunSet, Task, Work, emission}
use Rattle.of_machine.specs.{declared.data.Packet.Packet, TheWorld.TheWorld}
use Rattle.of_symbolic_run.specs.{declared.state.SymbolicState.SymbolicState, declared.state.SymbolicTask.SymbolicTask, States.AreTaskCopies, States.task_for}

-- two entries do the same with each packet that they match
pub record DoTheSame (f g : Flow) : Type 0 where
  pub priority : f.priority ≡ g.priority
  pub fields : f.fields ≡ g.fields
  pub cookie : f.cookie ≡ g.cookie
  pub instructions : f.instructions ≡ g.instructions

abbrev pub AreSameFlows : Option Flow → Option Flow → Type 0
AreSameFlows None None = ⊤
AreSameFlows None (Some g) = ⊥
AreSameFlows (Some f) None = ⊥
AreSameFlows (Some f) (Some g) = DoTheSame f g

-- the tables are the same from this one on, and so are the groups and the ports
pub record AgreeFrom (n : ℕ) (w v : TheWorld) : Type 0 where
  pub winner : (t : ℕ) → n ≤ t → (fields : Field → Option ℕ) → w.winner t fields ≡ v.winner t fields
  pub flow : (t place : ℕ) → n ≤ t → AreSameFlows (w.flow t place) (v.flow t place)
  pub chosen : (g : ℕ) → w.chosen g ≡ v.chosen g
  pub bucket : (g place : ℕ) → w.bucket g place ≡ v.bucket g place
  pub emits : (p : Packet) (port max_len : ℕ) → (emission w.ports p port max_len).items ≡ (emission v.ports p port max_len).items

-- ---- packets whose work comes only to tables from one on

abbrev pub IsNoTable : Action → Type 0
IsNoTable (Output port max_len) = (port == OFPP_TABLE) ≡ false
IsNoTable other = ⊤

abbrev pub AreNoTable : List Action → Type 0
AreNoTable l = AllByRecursion IsNoTable l

abbrev pub InstructionFrom : ℕ → Instruction → Type 0
InstructionFrom n (Apply l) = AreNoTable l
InstructionFrom n Clear = ⊤
InstructionFrom n (Write l) = AreNoTable l
InstructionFrom n (Metadata value mask) = ⊤
InstructionFrom n (Goto t) = n ≤ t

abbrev pub OneFrom : ℕ → Work → Type 0
OneFrom n (Lookup t) = n ≤ t
OneFrom n (Do i) = InstructionFrom n i
OneFrom n RunSet = ⊤
OneFrom n (Act a) = IsNoTable a

abbrev pub WorkFrom : ℕ → List Work → Type 0
WorkFrom n work = AllByRecursion (OneFrom n) work

pub record TaskFrom (n : ℕ) (t : Task) : Type 0 where
  pub set : AreNoTable t.packet.action_set
  pub work : WorkFrom n t.work

abbrev pub AllFrom : ℕ → List Task → Type 0
AllFrom n tasks = AllByRecursion (TaskFrom n) tasks

-- ---- states of both runs

-- for each frame, the work of these packets comes only to such tables
abbrev pub StayFrom : ℕ → List SymbolicTask → Type 0
StayFrom n tasks = (frame : List ℕ) (port : ℕ) → AllFrom n (map (task_for frame port) tasks)

-- both have the same packets, whose work comes only to such tables
pub record GoOnAlike (n : ℕ) (a b : SymbolicState) : Type 0 where
  pub same : AreTaskCopies a.tasks.items b.tasks.items
  pub from : StayFrom n a.tasks.items
