-- STATES OF A SYMBOLIC RUN: what a state says about the run of each frame (OpenFlow 1.3.5, 5.1).
use Rattle.std.specs.Prelude.{◌≡◌, ℕ, List, [], ◌∷◌, ◌++◌, map, Option, None, Some, ⊤}
use Rattle.of_actions.specs.declared.action.Action.TheVariants as actions
use Rattle.of_actions.specs.declared.instruction.Instruction.TheVariants as instructions
use Rattle.of_action_set.specs.Sets.{with_actions}
use Rattle.of_ports.specs.declared.port.Port.{Port}
use Rattle.of_wire.specs.declared.reasons.PacketInReason.TheVariants as reasons
use Rattle.of_machine.specs.Rows.{Row, Task, task, row, emission, entering, packet_in_emitted}
use Rattle.of_machine.specs.{declared.data.Packet.Packet, declared.data.Item.Item, declared.data.Step.Step, TheWorld.TheWorld, Runs.after, Runs.starting}
use Rattle.of_machine.specs.declared.data.Step.TheVariants as step
use Rattle.of_machine.specs.Rows as rows
use Rattle.of_symbolic.specs.Actions.{frame_of_actions}
use Rattle.of_symbolic_run.specs.{declared.state.SymbolicPacket.SymbolicPacket, declared.state.SymbolicTask.SymbolicTask, declared.state.SymbolicState.SymbolicState}
use Rattle.of_symbolic_run.specs.{declared.state.Emission.Emission, declared.state.Emission.TheVariants.Output, declared.state.Emission.TheVariants.InvalidTtl, declared.state.Work.Work}
use Rattle.of_symbolic_run.specs.declared.state.Work.TheVariants.{Lookup, Do, RunSet, Act}
use Rattle.of_symbolic_run.specs.declared.advance.Advance.{Advance}
use Rattle.of_symbolic_run.specs.declared.advance.Advance.TheVariants as advances

-- the packet of a frame that came in at a port
abbrev pub packet_for : SymbolicPacket → List ℕ → ℕ → Packet
packet_for p frame port =
    record {
      frame = frame_of_actions p.rewrites frame;
      ingress = port;
      metadata = p.metadata;
      action_set = with_actions [] p.written;
      cookie = p.cookie;
      table = p.table;
      miss = p.miss;
    }

abbrev pub work_for : Work → rows.Work
work_for (Lookup t) = rows.Lookup t
work_for (Do i) = rows.Do i
work_for RunSet = rows.RunSet
work_for (Act a) = rows.Act a

abbrev pub task_for : List ℕ → ℕ → SymbolicTask → Task
task_for frame port t = task (packet_for t.packet frame port) (map work_for t.work.items)

-- what is emitted for that frame
abbrev pub items_of_emission : List Port → Emission → List ℕ → ℕ → List Item
items_of_emission ports (Output packet port max_len) frame ingress = (emission ports (packet_for packet frame ingress) port max_len).items
items_of_emission ports (InvalidTtl packet) frame ingress = (packet_in_emitted reasons.InvalidTtl None (packet_for packet frame ingress)).items

-- all of it, in order
abbrev pub items_for : List Port → List Emission → List ℕ → ℕ → List Item
items_for ports [] frame port = []
items_for ports (e ∷ rest) frame port = items_of_emission ports e frame port ++ items_for ports rest frame port

-- THE MACHINE OF THE FRAME comes to the packets, has emitted the items of the state and has told its steps; what it has counted is not in a state
pub record IsAt (w : TheWorld) (frame : List ℕ) (port : ℕ) (s : SymbolicState) : Type 0 where
  pub steps : ℕ
  pub tasks : (after w steps (starting (entering frame port) (rows.Lookup 0 ∷ []))).tasks ≡ map (task_for frame port) s.tasks.items
  pub items : (after w steps (starting (entering frame port) (rows.Lookup 0 ∷ []))).items ≡ items_for w.ports s.emitted.items frame port
  pub lines : (after w steps (starting (entering frame port) (rows.Lookup 0 ∷ []))).lines ≡ s.steps.items

-- ---- copies: the same for each frame

abbrev pub IsTaskCopy : SymbolicTask → SymbolicTask → Type 0
IsTaskCopy t copy = (copy.packet ≡ t.packet) × (copy.work.items ≡ t.work.items)

abbrev pub AreTaskCopies : List SymbolicTask → List SymbolicTask → Type 0
AreTaskCopies [] [] = ⊤
AreTaskCopies [] (t ∷ rest) = ⊥
AreTaskCopies (t ∷ rest) [] = ⊥
AreTaskCopies (t ∷ rest) (copy ∷ copies) = IsTaskCopy t copy × AreTaskCopies rest copies

abbrev pub IsStateCopy : SymbolicState → SymbolicState → Type 0
IsStateCopy s copy = AreTaskCopies s.tasks.items copy.tasks.items × (copy.emitted.items ≡ s.emitted.items) × (copy.steps.items ≡ s.steps.items)

-- ---- steps

-- the row of a packet
abbrev pub row_for : TheWorld → List ℕ → ℕ → SymbolicTask → Row
row_for w frame port t = row w (packet_for t.packet frame port) (map work_for t.work.items)

-- for each frame the row of the packet leaves this packet in its place, and its items are those of the new emissions
abbrev pub TakesRow : SymbolicTask → List Emission → SymbolicTask → List Emission → Type 0
TakesRow t e t' e' =
    (w : TheWorld) (frame : List ℕ) (port : ℕ) →
    ((row_for w frame port t).left ≡ task_for frame port t' ∷ []) × (items_for w.ports e' frame port ≡ items_for w.ports e frame port ++ (row_for w frame port t).items)

-- what comes of a work: a lookup and DEC_NW_TTL divide frames, and a GROUP asks for the group's buckets
abbrev pub answer_to : Work → Advance
answer_to (Lookup t) = advances.Lookup t
answer_to (Act actions.DecNwTtl) = advances.DecNwTtl
answer_to (Act (actions.Group group)) = advances.Group group
answer_to other = advances.Done

abbrev pub answer_to_works : List Work → Advance
answer_to_works [] = advances.Done
answer_to_works (x ∷ rest) = answer_to x

abbrev pub answer_to_tasks : List SymbolicTask → Advance
answer_to_tasks [] = advances.Done
answer_to_tasks (t ∷ rest) = answer_to_works t.work.items

-- if the work is done, the row is taken, else nothing changes
abbrev pub WorkEnds : Advance → SymbolicTask → List Emission → SymbolicTask → List Emission → Type 0
WorkEnds advances.Done t e t' e' = TakesRow t e t' e'
WorkEnds other t e t' e' = (t' ≡ t) × (e' ≡ e)

-- for each frame one step: the row of the first packet, if there is one
abbrev pub TakesStep : List SymbolicTask → List Emission → List SymbolicTask → List Emission → Type 0
TakesStep [] e ts e' = (ts ≡ []) × (e' ≡ e)
TakesStep (t ∷ rest) e ts e' =
    (w : TheWorld) (frame : List ℕ) (port : ℕ) →
    (map (task_for frame port) ts ≡ (row_for w frame port t).left ++ map (task_for frame port) rest) ×
    (items_for w.ports e' frame port ≡ items_for w.ports e frame port ++ (row_for w frame port t).items)

abbrev pub Advances : Advance → List SymbolicTask → List Emission → List SymbolicTask → List Emission → Type 0
Advances advances.Done ts e ts' e' = TakesStep ts e ts' e'
Advances other ts e ts' e' = (ts' ≡ ts) × (e' ≡ e)

-- ---- lines

-- the line of a work whose row has the same line for each frame: not of one that divides frames, nor of a GROUP
abbrev pub work_line : Work → Option Step
work_line (Lookup t) = None
work_line (Do (instructions.Apply l)) = Some step.Apply
work_line (Do instructions.Clear) = Some step.Clear
work_line (Do (instructions.Write l)) = Some step.Write
work_line (Do (instructions.Metadata value mask)) = Some (step.Metadata value mask)
work_line (Do (instructions.Goto t)) = Some (step.Goto t)
work_line RunSet = Some step.Set
work_line (Act actions.DecNwTtl) = None
work_line (Act (actions.Group group)) = None
work_line (Act a) = Some (step.Act a)

abbrev pub with_step_line : List Step → Option Step → List Step
with_step_line l None = l
with_step_line l (Some line) = l ++ line ∷ []

-- for each frame the line of the first packet's row is one more, if there is a packet
abbrev pub TellsStep : List SymbolicTask → List Step → List Step → Type 0
TellsStep [] l l' = l' ≡ l
TellsStep (t ∷ rest) l l' = (w : TheWorld) (frame : List ℕ) (port : ℕ) → l' ≡ l ++ (row_for w frame port t).line ∷ []

abbrev pub TellsAdvance : Advance → List SymbolicTask → List Step → List Step → Type 0
TellsAdvance advances.Done ts l l' = TellsStep ts l l'
TellsAdvance other ts l l' = l' ≡ l
