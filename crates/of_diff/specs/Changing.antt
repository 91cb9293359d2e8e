-- For contracts inside this crate: frames that match one of the changed entries of a table, and what both switches do with the others (OpenFlow 1.3.5, 5.3).
use Rattle.std.specs.Prelude.{◌≡◌, ℕ, ◌<◌, ◌≤◌, ◌-◌, ◌++◌, ◌⊎◌, List, [], ◌∷◌, Option, Some, ⊤, true, length, slice_get, drop, Bool}
use Rattle.std.specs.{Global.Vec, List.Contains}
use Rattle.of_layers.specs.declared.field.Field.{Field}
use Rattle.of_oxm.specs.{declared.match_field.MatchField.MatchField, Relations.matches_map}
use Rattle.of_rewrite.specs.Frames.{IsFrame}
use Rattle.of_actions.specs.declared.action.Action.{Action}
use Rattle.of_action_set.specs.Sets.{with_actions}
use Rattle.of_table.specs.{Table.FlowEntry, Tables.table_at}
use Rattle.of_datapath.specs.Datapath.{Forwarding, world_of}
use Rattle.of_symbolic.specs.{Branches.rewritten_fields, InnerTags.description_of}
use Rattle.of_machine.specs.TheWorld.{TheWorld}
use Rattle.of_symbolic_run.specs.{declared.dividing.Case.Case, declared.frame_set.FrameSet.FrameSet, declared.state.SymbolicState.SymbolicState, declared.state.SymbolicTask.SymbolicTask}
use Rattle.of_symbolic_run.specs.{Cases.AreCases, FrameSets.InFrames, NextStates.AreNextStates, States.AreTaskCopies, States.answer_to_tasks, declared.advance.Advance.TheVariants.Lookup}
use Rattle.of_diff.specs.{declared.agreement.Agreement.Agreement, NextPairs.ArePairsApart, NextPairs.IsNextPair, NextPairs.pairs_of_parts, Pairs.AreByFirst, Pairs.AreStatesOfRuns, Pairs.InPairs}
use Rattle.of_diff.specs.declared.pair.Pair.{Pair}
use Rattle.of_alike.specs.{Agreeing.AgreeFrom, Agreeing.AreNoTable, Agreeing.StayFrom, SameTables.AreChanged}

abbrev pub entries_in : Forwarding → ℕ → List FlowEntry
entries_in f t = (table_at t f.tables).flows

-- from which table on both do the same, and which entries of the table before it changed
pub record IsAgreement (f g : Forwarding) (a : Agreement) : Type 0 where
  pub last : a.from ≤ 16
  pub agree : AgreeFrom a.from (world_of f) (world_of g)
  pub changed : 0 < a.from → AreChanged (entries_in f (a.from - 1)) (entries_in g (a.from - 1)) a.changed

-- ---- conditions

abbrev pub MatchedBySome : List (Vec MatchField) → (Field → Option ℕ) → Type 0
MatchedBySome asked fields = (m : Vec MatchField) × Contains asked m × (matches_map m.items fields ≡ true)

-- if the entry matches the packet after these actions, one of the lists of conditions matches the description of the frame that came in
abbrev pub IsAskedIn : Bool → List (Vec MatchField) → List Action → ℕ → FlowEntry → Type 0
IsAskedIn told asked l metadata e =
    (frame : List ℕ) (port : ℕ) → IsFrame frame → matches_map e.flow.fields (rewritten_fields l metadata frame port) ≡ true → MatchedBySome asked (description_of told frame port)

-- so it is for each marked entry
abbrev pub AreMarkedAskedIn : Bool → List (Vec MatchField) → List Action → ℕ → List FlowEntry → List Bool → Type 0
AreMarkedAskedIn told asked l metadata flows marks = (i : ℕ) (e : FlowEntry) → slice_get flows i ≡ Some e → slice_get marks i ≡ Some true → IsAskedIn told asked l metadata e

-- ---- frames

-- each frame that conditions match is in one of these sets, and none has other frames; there are no more sets than lists of conditions
pub record AreMatchedSets (frames : FrameSet) (asked : List (Vec MatchField)) (sets : List FrameSet) : Type 0 where
  pub within : (s : FrameSet) → Contains sets s → (frame : List ℕ) (port : ℕ) → InFrames s frame port → InFrames frames frame port
  pub all : (frame : List ℕ) (port : ℕ) → IsFrame frame → InFrames frames frame port → MatchedBySome asked (description_of frames.inner frame port) →
      (s : FrameSet) × Contains sets s × InFrames s frame port
  pub few : length sets ≤ length asked

-- one set more, unless it has no regions
abbrev pub AddsSet : List FrameSet → FrameSet → List FrameSet → Type 0
AddsSet old own new = (new ≡ old ++ own ∷ []) ⊎ ((new ≡ old) × (own.part.regions.items ≡ []))

-- ---- states

-- no action of the first packet's action set is an OUTPUT to TABLE
abbrev pub FirstSetIsOfPorts : List SymbolicTask → Type 0
FirstSetIsOfPorts [] = ⊤
FirstSetIsOfPorts (t ∷ rest) = AreNoTable (with_actions [] t.packet.written)

-- both have the same packets: the first is looked up in the table before these, and the others come only to these
pub record AreAtTableBefore (n : ℕ) (a b : SymbolicState) : Type 0 where
  pub same : AreTaskCopies a.tasks.items b.tasks.items
  pub positive : 0 < n
  pub lookup : answer_to_tasks a.tasks.items ≡ Lookup (n - 1)
  pub set : FirstSetIsOfPorts a.tasks.items
  pub others : StayFrom n (drop 1 a.tasks.items)

-- ---- pairs

-- one more pair for each case of the first run
pub record AddsPairs (w : TheWorld) (frames : FrameSet) (first second : SymbolicState) (old new : List Pair) : Type 0 where
  pub cases : List Case
  pub more : List Pair
  pub are : AreCases w frames first cases
  pub next : AreNextStates w first cases
  pub by : AreByFirst cases second more
  pub added : new ≡ old ++ more

-- each frame of these sets is in one of the pairs, whose states are those of its frames; those of a set took different steps
pub record ArePairsOf (w v : TheWorld) (old : Pair) (sets : List FrameSet) (pairs : List Pair) : Type 0 where
  pub hold : AreStatesOfRuns w v old → ((s : FrameSet) → Contains sets s → (frame : List ℕ) (port : ℕ) → InFrames s frame port → InFrames old.frames frame port) →
      (p : Pair) → Contains pairs p → AreStatesOfRuns w v p
  pub all : (s : FrameSet) → Contains sets s → (frame : List ℕ) (port : ℕ) → IsFrame frame → InFrames s frame port → InPairs pairs frame port
  pub next : (p : Pair) → Contains pairs p → IsNextPair w v old p
  pub parts : List (List Pair)
  pub parts_are : pairs ≡ pairs_of_parts parts
  pub apart : (part : List Pair) → Contains parts part → ArePairsApart part
  pub few : length parts ≤ length sets
