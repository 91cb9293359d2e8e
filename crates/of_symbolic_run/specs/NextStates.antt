-- THE NEXT STATES OF A RUN: what one step of the machine makes of a state, whether or not a frame takes it (OpenFlow 1.3.5, 5.1).
use Rattle.std.specs.Prelude.{◌≡◌, ℕ, zero, suc, Bool, true, false, List, [], ◌∷◌, ◌++◌, drop, map, Option, Some, slice_get}
use Rattle.std.specs.List.{Contains}
use Rattle.of_rewrite.specs.declared.frame.Ttl.TheVariants.{Done, Expired}
use Rattle.of_machine.specs.Rows.{Row, Work, Lookup, dec_ttl_row, entering, lookup_row, row, task}
use Rattle.of_machine.specs.{declared.data.Packet.Packet, TheWorld.TheWorld}
use Rattle.of_symbolic_run.specs.States.{answer_to_works, items_for, packet_for, task_for, work_for}
use Rattle.of_symbolic_run.specs.{declared.advance.Advance.Advance, declared.dividing.Case.Case, declared.state.SymbolicState.SymbolicState, declared.state.SymbolicTask.SymbolicTask}
use Rattle.of_symbolic_run.specs.declared.advance.Advance.TheVariants as advances

-- the row of a packet, if its lookup finds the entry of this number, or none, and if its TTL expires, or not
abbrev pub row_if : TheWorld → Advance → Option ℕ → Bool → Packet → List Work → Row
row_if w (advances.Lookup t) found expires p work = lookup_row w p t found
row_if w advances.DecNwTtl found true p work = dec_ttl_row p (drop 1 work) Expired
row_if w advances.DecNwTtl found false p work = dec_ttl_row p (drop 1 work) Done
row_if w (advances.Group group) found expires p work = row w p work
row_if w advances.Done found expires p work = row w p work

abbrev pub chosen_row : TheWorld → Option ℕ → Bool → List ℕ → ℕ → SymbolicTask → Row
chosen_row w found expires frame port t = row_if w (answer_to_works t.work.items) found expires (packet_for t.packet frame port) (map work_for t.work.items)

-- for each frame that row of the first packet was taken
pub record IsNextStateIf (w : TheWorld) (found : Option ℕ) (expires : Bool) (old new : SymbolicState) : Type 0 where
  pub t : SymbolicTask
  pub rest : List SymbolicTask
  pub first : old.tasks.items ≡ t ∷ rest
  pub tasks : (frame : List ℕ) (port : ℕ) → map (task_for frame port) new.tasks.items ≡ (chosen_row w found expires frame port t).left ++ map (task_for frame port) rest
  pub items : (frame : List ℕ) (port : ℕ) → items_for w.ports new.emitted.items frame port ≡ items_for w.ports old.emitted.items frame port ++ (chosen_row w found expires frame port t).items
  pub lines : (frame : List ℕ) (port : ℕ) → new.steps.items ≡ old.steps.items ++ (chosen_row w found expires frame port t).line ∷ []

-- THE NEXT STATE: a lookup finds an entry that the table has, or none; a TTL expires, or not; each other step is the same for each frame
pub record IsNextState (w : TheWorld) (old new : SymbolicState) : Type 0 where
  pub found : Option ℕ
  pub expires : Bool
  pub follows : IsNextStateIf w found expires old new

-- no two took the same steps
abbrev pub HaveDistinctSteps : List Case → Type 0
HaveDistinctSteps cases = (i j : ℕ) (a b : Case) → slice_get cases i ≡ Some a → slice_get cases j ≡ Some b → a.state.steps.items ≡ b.state.steps.items → i ≡ j

-- those of one state: so there are at most two, or one for each entry of the table and one for a miss
pub record AreNextStates (w : TheWorld) (old : SymbolicState) (cases : List Case) : Type 0 where
  pub each : (c : Case) → Contains cases c → IsNextState w old c.state
  pub apart : HaveDistinctSteps cases

-- THE FIRST STATE: one packet as it came in, which is looked up in the first table
pub record IsFirstState (s : SymbolicState) : Type 0 where
  pub tasks : (frame : List ℕ) (port : ℕ) → map (task_for frame port) s.tasks.items ≡ task (entering frame port) (Lookup 0 ∷ []) ∷ []
  pub emitted : s.emitted.items ≡ []
  pub steps : s.steps.items ≡ []

-- so many steps lead from the first state to this one
abbrev pub IsStateAfter : TheWorld → ℕ → SymbolicState → Type 0
IsStateAfter w zero s = IsFirstState s
IsStateAfter w (suc n) s = (before : SymbolicState) × IsStateAfter w n before × IsNextState w before s
