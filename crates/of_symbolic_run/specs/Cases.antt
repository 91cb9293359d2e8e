-- WHAT A STATE BECOMES FOR PARTS OF ITS FRAMES (OpenFlow 1.3.5, 5.3, 5.6 and 5.12).
use Rattle.std.specs.Prelude.{◌≡◌, ℕ, nat_lt, Bool, true, false, List, [], ◌∷◌, Option, None, Some, map, ⊤}
use Rattle.std.specs.{Borrow.Bor, List.Contains, Option.option_map}
use Rattle.of_layers.specs.declared.field.Field.{Field}
use Rattle.of_rewrite.specs.Frames.{IsFrame}
use Rattle.of_actions.specs.{declared.instruction.Instruction.Instruction, declared.instruction.Instruction.TheVariants.Goto}
use Rattle.of_table.specs.{declared.entry.Entry.Entry, declared.flow.Flow.Flow, Table.FlowEntry, Table.flow_at, Table.winner_place}
use Rattle.of_machine.specs.{declared.data.Step.Step, declared.data.Step.TheVariants.Entry as AtEntry, declared.data.Step.TheVariants.Miss, Rows.is_miss, Rows.key_of, Rows.works, TheWorld.TheWorld}
use Rattle.of_symbolic.specs.{declared.branching.Branch.Branch, declared.overlay.Overlay.Overlay, declared.part.Part.Part, Branches.AsksUnknown, InnerTags.description_of, Overlays.IsOverlay}
use Rattle.of_symbolic.specs.Parts.{AreListsOfConditions, InPart}
use Rattle.of_symbolic_run.specs.{declared.dividing.Case.Case, declared.frame_set.FrameSet.FrameSet, declared.state.SymbolicState.SymbolicState, declared.state.SymbolicTask.SymbolicTask}
use Rattle.of_symbolic_run.specs.{FrameSets.InFrames, NextStates.IsNextStateIf, States.IsAt, States.packet_for, States.work_for}

-- THE CASES of a state for some frames: no case has other frames, each frame is in a case, and the state of a case is one of the run of each of its frames
pub record AreCases (w : TheWorld) (frames : FrameSet) (state : SymbolicState) (cases : List Case) : Type 0 where
  pub within : (c : Case) → Contains cases c → (frame : List ℕ) (port : ℕ) → InFrames c.frames frame port → InFrames frames frame port
  pub all : (frame : List ℕ) (port : ℕ) → IsFrame frame → InFrames frames frame port → (c : Case) × Contains cases c × InFrames c.frames frame port
  pub at : (c : Case) → Contains cases c → (frame : List ℕ) (port : ℕ) → IsFrame frame → InFrames c.frames frame port → IsAt w frame port state → IsAt w frame port c.state

-- ---- lookups

-- the table of a world has these entries; they are named by their place by age, from 0
pub record IsTableOf (w : TheWorld) (table : ℕ) (flows : List FlowEntry) : Type 0 where
  pub winner : (fields : Field → Option ℕ) → w.winner table fields ≡ winner_place fields flows
  pub flow : (place : ℕ) → w.flow table place ≡ flow_at place flows

-- the match of an entry asks what is not known of the first packet, where inner tags are told or not
abbrev pub AsksUnknownOf : Bool → List SymbolicTask → List FlowEntry → Type 0
AsksUnknownOf told [] flows = ⊥
AsksUnknownOf told (t ∷ rest) flows = (o : Overlay) × (o.inner ≡ told) × IsOverlay o t.packet.rewrites × AsksUnknown o flows

-- the fields of the first packet, for a frame
abbrev pub first_key : List SymbolicTask → List ℕ → ℕ → Field → Option ℕ
first_key [] frame port = λ f. None
first_key (t ∷ rest) frame port = key_of (packet_for t.packet frame port)

-- the flow of the entry that was found, if one was, and the entry's number
abbrev pub flow_with_number : ℕ → Option Flow → Option (ℕ × Flow)
flow_with_number n None = None
flow_with_number n (Some f) = Some (n, f)

abbrev pub flow_found : TheWorld → ℕ → Option ℕ → Option (ℕ × Flow)
flow_found w table None = None
flow_found w table (Some n) = flow_with_number n (w.flow table n)

abbrev pub flow_named : List FlowEntry → Option ℕ → Option (ℕ × Flow)
flow_named flows None = None
flow_named flows (Some place) = flow_with_number place (flow_at place flows)

abbrev pub found_flow : Option (ℕ × Bor Entry) → Option (ℕ × Flow)
found_flow entry = option_map (λ (e : ℕ × Bor Entry). (e.0, e.1.now.flow)) entry

-- the line of a lookup
abbrev pub lookup_line : ℕ → Option (ℕ × Flow) → Step
lookup_line table None = Miss table
lookup_line table (Some f) = AtEntry table f.0

abbrev pub goes_to_table : Instruction → Bool
goes_to_table (Goto table) = true
goes_to_table other = false

-- the packet is at the entry of a flow, with its instructions; or it has no work left
abbrev pub IsAtEntry : ℕ → Option (ℕ × Flow) → SymbolicTask → SymbolicTask → Type 0
IsAtEntry table None old new = (new.packet ≡ old.packet) × (new.work.items ≡ [])
IsAtEntry table (Some f) old new = (new.packet ≡ record old.packet { cookie = f.1.cookie; table = table; miss = is_miss f.1 }) × (map work_for new.work.items ≡ works f.1.instructions)

-- where the entry of this number has this flow, or there is none, one state follows the other
abbrev pub IsEntered : ℕ → Option (ℕ × Flow) → SymbolicState → SymbolicState → Type 0
IsEntered table found old new = (w : TheWorld) (number : Option ℕ) → flow_found w table number ≡ found → IsNextStateIf w number false old new

-- one of so many entries, or none
abbrev pub is_listed : ℕ → Option ℕ → Bool
is_listed most None = true
is_listed most (Some place) = nat_lt place most

-- a branch of a part, with conditions
abbrev pub IsBranchOf : Part → Branch → Type 0
IsBranchOf part b = AreListsOfConditions b.part.lacks.items × ((fields : Field → Option ℕ) → InPart b.part fields → InPart part fields)

-- the case of a branch
pub record IsCaseOf (table : ℕ) (flows : List FlowEntry) (frames : FrameSet) (state : SymbolicState) (b : Branch) (c : Case) : Type 0 where
  pub within : (frame : List ℕ) (port : ℕ) → InFrames c.frames frame port → InFrames frames frame port × InPart b.part (description_of frames.inner frame port)
  pub all : (frame : List ℕ) (port : ℕ) → InFrames frames frame port → InPart b.part (description_of frames.inner frame port) → InFrames c.frames frame port
  pub entered : IsEntered table (flow_named flows b.entry) state c.state

-- those of branches, one after the other
abbrev pub AreCasesOf : ℕ → List FlowEntry → FrameSet → SymbolicState → List Branch → List Case → Type 0
AreCasesOf table flows frames state [] [] = ⊤
AreCasesOf table flows frames state [] (c ∷ cases) = ⊥
AreCasesOf table flows frames state (b ∷ branches) [] = ⊥
AreCasesOf table flows frames state (b ∷ branches) (c ∷ cases) = IsCaseOf table flows frames state b c × AreCasesOf table flows frames state branches cases
