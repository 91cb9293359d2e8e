-- What a step of one run makes of its state, for all frames of a set (OpenFlow 1.3.5, 5.1).
use Rattle.std.specs.Prelude.{◌≡◌, ◌<◌, ◌≤◌, ◌⊎◌, ℕ, Bool, List, length}
use Rattle.of_wire.specs.declared.limits.TheConstants.{TABLES}
use Rattle.of_table.specs.Table.{FlowEntry}
use Rattle.of_machine.specs.TheWorld.{TheWorld}
use Rattle.of_symbolic_run.specs.{declared.advance.Advance.TheVariants.Lookup, declared.frame_set.FrameSet.FrameSet, declared.state.SymbolicState.SymbolicState}
use Rattle.of_symbolic_run.specs.{Cases.AreCases, Cases.AsksUnknownOf, Cases.IsTableOf, NextStates.AreNextStates, NextStates.IsNextState, States.IsAt, States.answer_to_tasks}
use Rattle.of_symbolic_run.specs.{declared.side.Side.Side, declared.side.Side.TheVariants.Advanced, declared.side.Side.TheVariants.Divided, declared.side.Side.TheVariants.Unknown}

-- IT IS NOT KNOWN WHAT A LOOKUP FINDS: the first packet is looked up, and this switch has no such table, or the match of an entry of the table asks what
-- is not known of the packet, where inner tags are told or not
pub record IsUnknownLookup (told : Bool) (w : TheWorld) (s : SymbolicState) : Type 0 where
  pub table : ℕ
  pub lookup : answer_to_tasks s.tasks.items ≡ Lookup table
  pub unknown : (TABLES ≤ table) ⊎ ((flows : List FlowEntry) × IsTableOf w table flows × AsksUnknownOf told s.tasks.items flows)

-- what becomes of one state for some frames: if there is a packet, its next state, or its next ones, or it is not known what a lookup finds
abbrev pub SideIs : TheWorld → FrameSet → SymbolicState → SymbolicState → Side → Type 0
SideIs w frames old new Advanced = ((frame : List ℕ) (port : ℕ) → IsAt w frame port old → IsAt w frame port new) × (0 < length old.tasks.items → IsNextState w old new)
SideIs w frames old new (Divided cases) = AreCases w frames old cases.items × AreNextStates w old cases.items
SideIs w frames old new Unknown = IsUnknownLookup frames.inner w old
