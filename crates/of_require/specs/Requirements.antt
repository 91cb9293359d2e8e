-- REQUIREMENTS OF A SWITCH: what no frame, each frame or some frame does that it receives (OpenFlow 1.3.5, 5.1 and 5.12).
use Rattle.std.specs.Prelude.{◌≡◌, ℕ, ◌==◌, ◌&&◌, ◌||◌, nat_le, Bool, true, false, not, List, length}
use Rattle.std.specs.List.{list_all, list_any}
use Rattle.of_oxm.specs.{declared.match_field.MatchField.MatchField, Relations.matches_map}
use Rattle.of_machine.specs.{declared.data.Item.Item, declared.data.Step.Step, declared.data.Step.TheVariants.Entry, declared.data.Step.TheVariants.Miss, declared.data.Step.TheVariants.TtlExpired}
use Rattle.of_machine.specs.TheWorld.{TheWorld}
use Rattle.of_symbolic.specs.Parts.{received_fields}
use Rattle.of_symbolic_run.specs.Received.{IsReceivedAt, items_at}
use Rattle.of_json.specs.ChangesInWords.{item_frame}
use Rattle.of_paths.specs.{Ways.lines_at, declared.destination.Destination.Destination, declared.destination.Destination.TheVariants.Nothing, Places.leaves_to}
use Rattle.of_require.specs.declared.requirement.Demand.{Demand}
use Rattle.of_require.specs.declared.requirement.Demand.TheVariants.{Has, LeavesBy, LeavesOnlyBy, PassesTable}
use Rattle.of_require.specs.declared.requirement.Quantifier.{Quantifier}
use Rattle.of_require.specs.declared.requirement.Quantifier.TheVariants.{AtLeastOne, Each, No}
use Rattle.of_require.specs.declared.requirement.Requirement.{Requirement}

-- ---- what a frame does, by the steps and the items of its run

-- the item goes to one of these places
abbrev pub goes_among : List Destination → Item → Bool
goes_among places item = list_any (λ to. leaves_to to item) places

abbrev pub is_nothing : Destination → Bool
is_nothing Nothing = true
is_nothing other = false

-- nothing leaves, and that is among the places
abbrev pub is_dropped : List Destination → List Item → Bool
is_dropped places items = (length items == 0) && list_any is_nothing places

-- a lookup in the table
abbrev pub is_lookup_in : ℕ → Step → Bool
is_lookup_in table (Entry t number) = t == table
is_lookup_in table (Miss t) = t == table
is_lookup_in table other = false

-- a frame, of 14 bytes at least, has these fields, where IN_PORT is the port by which it came in
abbrev pub frame_has : List MatchField → ℕ → List ℕ → Bool
frame_has fields in_port frame = nat_le 14 (length frame) && matches_map fields (received_fields frame in_port)

abbrev pub has_fields : List MatchField → ℕ → Item → Bool
has_fields fields in_port item = frame_has fields in_port (item_frame item)

-- of what leaves by these places, all has these fields if that is asked of each frame; else something has
abbrev pub have : Quantifier → List Destination → List MatchField → ℕ → List Item → Bool
have Each places fields in_port items = list_all (λ item. not (goes_among places item) || has_fields fields in_port item) items
have other places fields in_port items = list_any (λ item. goes_among places item && has_fields fields in_port item) items

-- what is demanded, of a frame that came in by this port
abbrev pub is_done : Quantifier → Demand → ℕ → List Step → List Item → Bool
is_done quantifier (LeavesBy places) in_port lines items = list_any (goes_among places.items) items || is_dropped places.items items
is_done quantifier (LeavesOnlyBy places) in_port lines items = list_all (goes_among places.items) items
is_done quantifier (PassesTable table) in_port lines items = list_any (is_lookup_in table) lines
is_done quantifier (Has places fields) in_port lines items = have quantifier places.items fields in_port items

-- ---- the frames that a requirement is about

abbrev pub is_expiry : Step → Bool
is_expiry TtlExpired = true
is_expiry other = false

-- those whose TTL expires are left out, if the requirement says so
abbrev pub is_counted : Bool → List Step → Bool
is_counted except_expired lines = not (except_expired && list_any is_expiry lines)

-- a requirement about what leaves by some places is about the frames of which something does
abbrev pub is_leaving : Demand → List Item → Bool
is_leaving (Has places fields) items = list_any (goes_among places.items) items
is_leaving other items = true

-- they are received, and its conditions match them
pub record IsAbout (w : TheWorld) (r : Requirement) (frame : List ℕ) (port : ℕ) : Type 0 where
  pub received : IsReceivedAt w frame port
  pub matched : matches_map r.within.items (received_fields frame port) ≡ true
  pub counted : is_counted r.except_expired (lines_at w frame port) ≡ true
  pub leaving : is_leaving r.demand (items_at w frame port) ≡ true

abbrev pub does_at : TheWorld → Requirement → List ℕ → ℕ → Bool
does_at w r frame port = is_done r.quantifier r.demand port (lines_at w frame port) (items_at w frame port)

-- ---- WHETHER A SWITCH MEETS A REQUIREMENT: no frame that it is about does it, or each does, or one does

abbrev pub IsMetBy : Quantifier → TheWorld → Requirement → Type 0
IsMetBy No w r = (frame : List ℕ) (port : ℕ) → IsAbout w r frame port → does_at w r frame port ≡ false
IsMetBy Each w r = (frame : List ℕ) (port : ℕ) → IsAbout w r frame port → does_at w r frame port ≡ true
IsMetBy AtLeastOne w r = (frame : List ℕ) × (port : ℕ) × IsAbout w r frame port × (does_at w r frame port ≡ true)

abbrev pub IsMet : TheWorld → Requirement → Type 0
IsMet w r = IsMetBy r.quantifier w r
