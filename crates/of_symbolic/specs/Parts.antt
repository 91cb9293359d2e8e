-- A PART OF ALL PACKETS: packets of some regions that none of some lists of conditions matches (OpenFlow 1.3.5, 5.3).
use Rattle.std.specs.Prelude.{◌≡◌, ℕ, ◌<◌, ◌/◌, ◌%◌, ◌^◌, ◌==◌, ◌&&◌, ◌||◌, nat_lt, Bool, List, [], ◌∷◌, Option, map, true, false}
use Rattle.std.specs.{List.Contains, Global.Vec}
use Rattle.of_layers.specs.{declared.field.Field.Field, Reading.layers_of}
use Rattle.of_headers.specs.FieldMap.{field_map}
use Rattle.of_oxm.specs.{declared.match_field.MatchField.MatchField, Relations.matches_map}
use Rattle.of_rewrite.specs.Frames.{IsFrame}
use Rattle.of_regions.specs.{declared.region.Region.Region, declared.rival.Rival.Rival, declared.searching.Found.Found, declared.witness.Packet.Packet, Conditions.AreConditions}
use Rattle.of_regions.specs.{Regions.InRegion, Regions.IsSomeTagging, Searching.InSome, Searching.IsUndecided, Witness.HasNoIngress, Witness.IsReceived, Witness.IsShortFrame, Witness.fields_in}
use Rattle.of_regions.specs.declared.searching.Found.TheVariants as found
use Rattle.of_symbolic.specs.{declared.part.Part.Part, InnerTags.description_of}

abbrev pub AreListsOfConditions : List (Vec MatchField) → Type 0
AreListsOfConditions lacks = (m : Vec MatchField) → Contains lacks m → AreConditions m.items

-- these conditions are one of the lists
abbrev pub IsListed : List (Vec MatchField) → List MatchField → Type 0
IsListed lacks m = (x : Vec MatchField) × Contains lacks x × (x.items ≡ m)

-- none of these lists of conditions matches
abbrev pub NoneOfMatches : List (Vec MatchField) → (Field → Option ℕ) → Type 0
NoneOfMatches lacks fields = (m : Vec MatchField) → Contains lacks m → matches_map m.items fields ≡ false

-- the fields of a packet of the part
abbrev pub InPart : Part → (Field → Option ℕ) → Type 0
InPart part fields = InSome part.regions.items fields × NoneOfMatches part.lacks.items fields

-- the fields of a frame that came in by a port: its metadata is 0 (5.1)
abbrev pub received_fields : List ℕ → ℕ → Field → Option ℕ
received_fields frame port = field_map (layers_of frame) port 0

-- METADATA that the description of a frame may have, by the frame's tags: 0, and if there is a tag and inner tags are told, the number of an inner tag, in 16 bits with the bit 0x1000
abbrev pub may_tell : Bool → List (List ℕ) → ℕ → Bool
may_tell told [] n = n == 0
may_tell told (t ∷ ts) n = n == 0 || told && nat_lt n 0x10000 && n / 0x1000 % 2 == 1

-- the packets of the part are descriptions of frames, each with an inner tag or without
abbrev pub AreDescriptions : Bool → Part → Type 0
AreDescriptions told part = (frame : List ℕ) (port metadata : ℕ) → IsFrame frame → metadata < 2 ^ 64 → InPart part (field_map (layers_of frame) port metadata) → may_tell told (layers_of frame).tags metadata ≡ true

-- the descriptions of all frames, by any port, and no others
pub record IsWholePart (told : Bool) (part : Part) : Type 0 where
  pub all : (frame : List ℕ) (port : ℕ) → IsFrame frame → InPart part (description_of told frame port)
  pub only : AreDescriptions told part

-- ---- what a search in it finds

-- a region of it of which no packet comes in by a port that a switch may have, and it has no other packet
pub record IsUnreceivedPart (part : Part) (r : Region) : Type 0 where
  pub within : (fields : Field → Option ℕ) → InRegion r fields → InPart part fields
  pub ports : HasNoIngress r
  pub none : (p : Packet) → IsReceived p → InPart part (fields_in p) → ⊥

-- it has no packet
abbrev pub IsEmptyPart : Part → Type 0
IsEmptyPart part = (frame : List ℕ) (port metadata : ℕ) → IsFrame frame → InPart part (field_map (layers_of frame) port metadata) → ⊥

-- rivals with these conditions
abbrev pub HaveConditions : List (Vec MatchField) → List Rival → Type 0
HaveConditions lacks rivals = map (λ (q : Rival). q.fields.now) rivals ≡ map (λ (m : Vec MatchField). m.items) lacks

-- in so many steps: a packet of it; or it has none; or none that a switch receives; or the search was not done
abbrev pub FindsInPart : Part → ℕ → Found → Type 0
FindsInPart part steps (found.Free p) = IsReceived p × IsShortFrame p.frame.items × InPart part (fields_in p)
FindsInPart part steps (found.Taken names) = IsEmptyPart part
FindsInPart part steps (found.Unreceived r) = IsUnreceivedPart part r
FindsInPart part steps found.Undecided = (rivals : List Rival) × HaveConditions part.lacks.items rivals × IsUndecided part.regions.items rivals steps

-- ---- less of a part

-- the regions of which a match may leave packets
pub record AreLeftRegions (m : List MatchField) (old new : List Region) : Type 0 where
  pub within : (fields : Field → Option ℕ) → InSome new fields → InSome old fields
  pub all : (fields : Field → Option ℕ) → InSome old fields → matches_map m fields ≡ false → InSome new fields

-- the packets of a part that a match does not match
pub record IsUnmatchedPart (m : List MatchField) (old new : Part) : Type 0 where
  pub within : (fields : Field → Option ℕ) → InPart new fields → InPart old fields × (matches_map m fields ≡ false)
  pub all : (fields : Field → Option ℕ) → InPart old fields → matches_map m fields ≡ false → InPart new fields
  pub conditions : AreListsOfConditions old.lacks.items → AreListsOfConditions new.lacks.items

-- those that it matches
pub record IsMatchedPart (m : List MatchField) (old new : Part) : Type 0 where
  pub within : (fields : Field → Option ℕ) → InPart new fields → InPart old fields × (matches_map m fields ≡ true)
  pub all : (fields : Field → Option ℕ) → IsSomeTagging fields → InPart old fields → matches_map m fields ≡ true → InPart new fields
  pub conditions : AreListsOfConditions new.lacks.items
