-- A SEARCH FOR A PACKET of some regions that no rival matches: rivals are matches that go before (OpenFlow 1.3.5, 5.3).
use Rattle.std.specs.Prelude.{◌≡◌, ◌<◌, ◌≤◌, ◌⊎◌, ◌++◌, ℕ, zero, suc, true, false, List, [], ◌∷◌, length, Option, Some, None, IfSome, map, slice_get}
use Rattle.std.specs.List.{Contains}
use Rattle.of_layers.specs.{declared.field.Field.Field, declared.field.Field.TheVariants.InPort, Reading.layers_of}
use Rattle.of_headers.specs.FieldMap.{field_map}
use Rattle.of_oxm.specs.{declared.match_field.MatchField.MatchField, Relations.matches_map}
use Rattle.of_rewrite.specs.Frames.{IsFrame}
use Rattle.of_frames.specs.{declared.shape.Shape.Shape, declared.shape.Tagging.Tagging, Rules.HasShape, Rules.IsTagging}
use Rattle.of_regions.specs.Witness.{HasNoIngress, IsIngressPort, IsReceived, IsShortFrame, fields_in}
use Rattle.of_regions.specs.{declared.meeting.Meeting.TheVariants.Apart, declared.meeting.Meeting.TheVariants.Whole, declared.meeting.Meeting.TheVariants.Crosses, declared.region.Region.Region}
use Rattle.of_regions.specs.{declared.rival.Rival.Rival, declared.looking.Rest.Rest, declared.looking.Look.Look}
use Rattle.of_regions.specs.{declared.looking.Look.TheVariants.Free, declared.looking.Look.TheVariants.Taken, declared.looking.Look.TheVariants.Splits, declared.searching.Found.Found}
use Rattle.of_regions.specs.{declared.witness.Packet.Packet, Conditions.IsCondition, Meeting.Meets, Naming.AreAscending, Dividing.AreDividedBy, Regions.InRegion}
use Rattle.of_regions.specs.declared.searching.Found.TheVariants as found

-- no rival matches it
abbrev pub IsUnrivalled : List Rival → (Field → Option ℕ) → Type 0
IsUnrivalled rivals fields = (q : Rival) → Contains rivals q → matches_map q.fields.now fields ≡ false

-- one of the rivals of these names matches it
abbrev pub IsRivalled : List Rival → List ℕ → (Field → Option ℕ) → Type 0
IsRivalled rivals names fields = (q : Rival) × Contains rivals q × Contains names q.name × (matches_map q.fields.now fields ≡ true)

abbrev pub InSome : List Region → (Field → Option ℕ) → Type 0
InSome regions fields = (r : Region) × Contains regions r × InRegion r fields

-- ---- what is found

-- a packet of the regions that no rival matches
pub record IsFreePacket (start : List Region) (rivals : List Rival) (p : Packet) : Type 0 where
  pub received : IsReceived p
  pub short : IsShortFrame p.frame.items
  pub within : InSome start (fields_in p)
  pub unrivalled : IsUnrivalled rivals (fields_in p)

-- the rival matches all packets of a region of them
pub record TakesSome (start : List Region) (q : Rival) : Type 0 where
  pub region : Region
  pub within : (fields : Field → Option ℕ) → InRegion region fields → InSome start fields
  pub whole : Meets region q.fields.now Whole

-- each packet of the regions is matched by one of the rivals of these names, each of which matches all packets of a region of them
pub record AreTaking (start : List Region) (rivals : List Rival) (names : List ℕ) : Type 0 where
  pub named : (j : ℕ) → Contains names j → (q : Rival) × Contains rivals q × (q.name ≡ j) × TakesSome start q
  pub covered : (frame : List ℕ) (port metadata : ℕ) → IsFrame frame → InSome start (field_map (layers_of frame) port metadata) → IsRivalled rivals names (field_map (layers_of frame) port metadata)
  pub ascending : AreAscending names

-- packets of the regions that no rival matches, but no switch receives them by such a port
pub record IsUnreceived (start : List Region) (rivals : List Rival) (r : Region) : Type 0 where
  pub within : (fields : Field → Option ℕ) → InRegion r fields → InSome start fields
  pub unrivalled : (fields : Field → Option ℕ) → InRegion r fields → IsUnrivalled rivals fields
  pub ports : HasNoIngress r

-- no packet that a switch may receive is left by the rivals
abbrev pub NoneReceived : List Region → List Rival → Type 0
NoneReceived start rivals = (p : Packet) → IsReceived p → InSome start (fields_in p) → IsUnrivalled rivals (fields_in p) → ⊥

-- a region of packets that no switch receives is left, and no other packet is
pub record LeavesUnreceived (start : List Region) (rivals : List Rival) (r : Region) : Type 0 where
  pub is : IsUnreceived start rivals r
  pub none : NoneReceived start rivals

-- ---- steps

-- one step: the last region is dropped, since a rival matches all of it, or since it is one that no switch receives; or it is divided by what a rival looks at that may match some of it
pub data IsStep (start : List Region) (rivals : List Rival) (old new : List Region) : Type 0 where
  taken : (r : Region) (q : Rival) → old ≡ new ++ r ∷ [] → Contains rivals q → Meets r q.fields.now Whole → IsStep start rivals old new
  unreceived : (r : Region) → old ≡ new ++ r ∷ [] → IsUnreceived start rivals r → IsStep start rivals old new
  divided : (others : List Region) (r first second : Region) (q : Rival) (e : MatchField) → old ≡ others ++ r ∷ [] → new ≡ others ++ first ∷ second ∷ [] → Contains rivals q → Meets r q.fields.now (Crosses e) → AreDividedBy e r first second → IsStep start rivals old new

-- so many steps lead from the regions at the start to these
abbrev pub AreSteps : List Region → List Rival → ℕ → List Region → Type 0
AreSteps start rivals zero end = end ≡ start
AreSteps start rivals (suc n) end = (before : List Region) × AreSteps start rivals n before × IsStep start rivals before end

-- so many steps were taken, and regions are left
pub record IsUndecided (start : List Region) (rivals : List Rival) (steps : ℕ) : Type 0 where
  pub end : List Region
  pub left : ¬ (end ≡ [])
  pub taken : AreSteps start rivals steps end

-- WHAT A SEARCH OF AT MOST SO MANY STEPS FINDS among regions
abbrev pub IsFoundBySearch : List Region → List Rival → ℕ → Found → Type 0
IsFoundBySearch start rivals steps (found.Free p) = IsFreePacket start rivals p
IsFoundBySearch start rivals steps (found.Taken names) = AreTaking start rivals names.items
IsFoundBySearch start rivals steps (found.Unreceived r) = LeavesUnreceived start rivals r
IsFoundBySearch start rivals steps found.Undecided = IsUndecided start rivals steps

-- ---- the regions of a match

-- those with which a search for a packet of a match begins: by the shapes of packets, at most ten, with a tag and without
pub record IsStart (own : List MatchField) (regions : List Region) : Type 0 where
  pub few : length regions ≤ 20
  pub matched : (r : Region) → Contains regions r → (fields : Field → Option ℕ) → InRegion r fields → matches_map own fields ≡ true
  pub all : (s : Shape) (t : Tagging) (fields : Field → Option ℕ) → HasShape s fields → IsTagging t fields → matches_map own fields ≡ true → InSome regions fields

-- AMONG THE PACKETS OF A MATCH
abbrev pub Finds : List MatchField → List Rival → ℕ → Found → Type 0
Finds own rivals steps f = (start : List Region) × IsStart own start × IsFoundBySearch start rivals steps f

-- ---- inside a search

-- none of the rivals before an index matches any of the region
abbrev pub AreApartBefore : List Rival → Region → ℕ → Type 0
AreApartBefore rivals r n = (i : ℕ) (q : Rival) → i < n → slice_get rivals i ≡ Some q → Meets r q.fields.now Apart

-- the rival of an index matches all of the region
pub record IsTakenByRival (rivals : List Rival) (r : Region) (i : ℕ) : Type 0 where
  pub rival : Rival
  pub there : slice_get rivals i ≡ Some rival
  pub whole : Meets r rival.fields.now Whole

-- the rival of an index is the first that may match some of the region
pub record IsSplit (rivals : List Rival) (r : Region) (i : ℕ) (e : MatchField) : Type 0 where
  pub rival : Rival
  pub there : slice_get rivals i ≡ Some rival
  pub crosses : Meets r rival.fields.now (Crosses e)
  pub condition : IsCondition e
  pub first : AreApartBefore rivals r i

abbrev pub IsLook : List Rival → Region → Look → Type 0
IsLook rivals r Free = AreApartBefore rivals r (length rivals)
IsLook rivals r (Taken i) = IsTakenByRival rivals r i
IsLook rivals r (Splits i e) = IsSplit rivals r i e

-- in one of the regions that are left
abbrev pub InRests : List Rest → (Field → Option ℕ) → Type 0
InRests rests fields = (x : Rest) × Contains rests x × InRegion x.region fields

abbrev pub regions_in : List Rest → List Region
regions_in rests = map (λ x. x.region) rests

-- it came in by a port that no switch has
abbrev pub IsOfNoPort : (Field → Option ℕ) → Type 0
IsOfNoPort fields = IfSome (fields InPort) (λ port. ¬ (IsIngressPort port))

-- the state of a search
pub record IsState (start : List Region) (rivals : List Rival) (rests : List Rest) (names : List ℕ) (unreceived : Option Region) : Type 0 where
  pub passed : (x : Rest) → Contains rests x → AreApartBefore rivals x.region x.from
  pub within : (x : Rest) → Contains rests x → (fields : Field → Option ℕ) → InRegion x.region fields → InSome start fields
  pub covered : unreceived ≡ None → (s : Shape) (t : Tagging) (fields : Field → Option ℕ) → HasShape s fields → IsTagging t fields → InSome start fields → InRests rests fields ⊎ IsRivalled rivals names fields
  pub received : (s : Shape) (t : Tagging) (fields : Field → Option ℕ) → HasShape s fields → IsTagging t fields → InSome start fields → (InRests rests fields ⊎ IsRivalled rivals names fields) ⊎ IsOfNoPort fields
  pub named : (j : ℕ) → Contains names j → (q : Rival) × Contains rivals q × (q.name ≡ j) × TakesSome start q
  pub ascending : AreAscending names
  pub kept : IfSome unreceived (IsUnreceived start rivals)
