-- WHAT A LOOKUP DOES WITH ALL PACKETS OF A PART: it divides them by the entry that wins (OpenFlow 1.3.5, 5.3).
use Rattle.std.specs.Prelude.{◌≡◌, ℕ, Bool, List, Option, Some, slice_get, true, map}
use Rattle.std.specs.{Borrow.Bor, List.Contains}
use Rattle.of_layers.specs.{declared.field.Field.Field, Reading.layers_of}
use Rattle.of_headers.specs.FieldMap.{field_map}
use Rattle.of_rewrite.specs.Frames.{IsFrame}
use Rattle.of_actions.specs.declared.action.Action.{Action}
use Rattle.of_table.specs.{declared.entry.Entry.Entry, Entries.flows_of, Table.FlowEntry, Table.winner_place}
use Rattle.of_symbolic.specs.{declared.branching.Branch.Branch, declared.overlay.Overlay.Overlay, declared.part.Part.Part, Actions.frame_of_actions, InnerTags.description_of, Parts.InPart}
use Rattle.of_symbolic.specs.Pulling.{is_unknown_in}

-- the fields of the packet that actions make of a frame that came in by a port, with this metadata
abbrev pub rewritten_fields : List Action → ℕ → List ℕ → ℕ → Field → Option ℕ
rewritten_fields l metadata frame port = field_map (layers_of (frame_of_actions l frame)) port metadata

-- no two of one entry
abbrev pub HaveDistinctEntries : List Branch → Type 0
HaveDistinctEntries branches = (i j : ℕ) (a b : Branch) → slice_get branches i ≡ Some a → slice_get branches j ≡ Some b → a.entry ≡ b.entry → i ≡ j

-- The packets of a part, which describes frames, after these actions and with this metadata, by the entry that each hits (5.3). An entry is named by its place by age, from 0.
pub record AreBranches (told : Bool) (flows : List FlowEntry) (l : List Action) (metadata : ℕ) (part : Part) (branches : List Branch) : Type 0 where
  -- no branch has other packets
  pub within : (b : Branch) → Contains branches b → (fields : Field → Option ℕ) → InPart b.part fields → InPart part fields
  -- each packet of a branch hits its entry, or none
  pub wins : (b : Branch) → Contains branches b → (frame : List ℕ) (port : ℕ) → IsFrame frame → InPart b.part (description_of told frame port) → winner_place (rewritten_fields l metadata frame port) flows ≡ b.entry
  -- an entry has one branch at most, and so have the packets that hit none
  pub once : HaveDistinctEntries branches
  -- each packet is in a branch
  pub all : (frame : List ℕ) (port : ℕ) → IsFrame frame → InPart part (description_of told frame port) → (b : Branch) × Contains branches b × InPart b.part (description_of told frame port)

-- the entries that these refer to, without their numbers
abbrev pub flows_listed : List (Bor Entry) → List FlowEntry
flows_listed entries = flows_of (map (λ (e : Bor Entry). e.now) entries)

-- the match of one of the entries asks what is not known
pub record AsksUnknown (o : Overlay) (flows : List FlowEntry) : Type 0 where
  pub entry : FlowEntry
  pub there : Contains flows entry
  pub unknown : is_unknown_in o entry.flow.fields ≡ true
