-- THE ENTRIES OF A TABLE as conditions on the frame that came in, and which of them wins (OpenFlow 1.3.5, 5.3).
use Rattle.std.specs.Prelude.{◌≡◌, ℕ, ◌<◌, ◌⊎◌, ◌++◌, Bool, true, false, List, [], ◌∷◌, length, Option, Some, None, IfSome, slice_get, ⊤}
use Rattle.std.specs.{List.Contains, Option.option_map, Global.Vec}
use Rattle.of_layers.specs.declared.field.Field.{Field}
use Rattle.of_oxm.specs.{declared.match_field.MatchField.MatchField, Relations.matches_map}
use Rattle.of_regions.specs.{Conditions.AreConditions, Regions.IsSomeTagging}
use Rattle.of_actions.specs.declared.action.Action.{Action}
use Rattle.of_table.specs.Table.{FlowEntry}
use Rattle.of_symbolic.specs.{declared.branching.Branch.Branch, declared.branching.Rank.Rank, declared.overlay.Overlay.Overlay, declared.part.Part.Part}
use Rattle.of_symbolic.specs.{declared.pulled_entry.PulledEntry.PulledEntry, declared.pulling.Pulled.Pulled, declared.pulling.Pulled.TheVariants.Never, declared.pulling.Pulled.TheVariants.When}
use Rattle.of_symbolic.specs.{Overlays.IsOverlay, Parts.AreListsOfConditions, Parts.InPart, Pulling.IsPulled}

-- ---- what entries ask

abbrev pub pulled_of : Option (Vec MatchField) → Pulled
pulled_of None = Never
pulled_of (Some fields) = When fields

-- the frame that came in is one that the entry matches
abbrev pub is_agreed : Option (Vec MatchField) → (Field → Option ℕ) → Bool
is_agreed None fields = false
is_agreed (Some m) fields = matches_map m.items fields

abbrev pub HasConditions : PulledEntry → Type 0
HasConditions p = IfSome p.fields (λ (m : Vec MatchField). AreConditions m.items)

pub record IsPulledEntry (o : Overlay) (metadata : ℕ) (e : FlowEntry) (p : PulledEntry) : Type 0 where
  pub priority : p.priority ≡ e.flow.priority
  pub is : (l : List Action) → IsOverlay o l → IsPulled o.inner l metadata e.flow.fields (pulled_of p.fields)
  pub conditions : HasConditions p

abbrev pub ArePulledEntries : Overlay → ℕ → List FlowEntry → List PulledEntry → Type 0
ArePulledEntries o metadata [] [] = ⊤
ArePulledEntries o metadata [] (p ∷ ps) = ⊥
ArePulledEntries o metadata (e ∷ es) [] = ⊥
ArePulledEntries o metadata (e ∷ es) (p ∷ ps) = IsPulledEntry o metadata e p × ArePulledEntries o metadata es ps

abbrev pub AllHaveConditions : List PulledEntry → Type 0
AllHaveConditions entries = (k : ℕ) (p : PulledEntry) → slice_get entries k ≡ Some p → HasConditions p

-- ---- entries near a part

-- it matches the same packets of the part
pub record IsNearEntry (part : Part) (old new : PulledEntry) : Type 0 where
  pub priority : new.priority ≡ old.priority
  pub agreed : (fields : Field → Option ℕ) → InPart part fields → is_agreed new.fields fields ≡ is_agreed old.fields fields
  pub conditions : HasConditions old → HasConditions new

abbrev pub AreNearEntries : Part → List PulledEntry → List PulledEntry → Type 0
AreNearEntries part [] [] = ⊤
AreNearEntries part [] (q ∷ qs) = ⊥
AreNearEntries part (p ∷ ps) [] = ⊥
AreNearEntries part (p ∷ ps) (q ∷ qs) = IsNearEntry part p q × AreNearEntries part ps qs

-- ---- which one wins

-- an entry of this priority and place goes before one of that rank: it has a higher priority, or the same and is older; each goes before a miss
abbrev pub IsAhead : ℕ → ℕ → Option Rank → Type 0
IsAhead priority place None = ⊤
IsAhead priority place (Some r) = (r.priority < priority) ⊎ ((priority ≡ r.priority) × (place < r.place))

-- of the first n entries none matches that goes before
abbrev pub NoneAhead : List PulledEntry → ℕ → Option Rank → (Field → Option ℕ) → Type 0
NoneAhead entries n of fields = (k : ℕ) (p : PulledEntry) → k < n → slice_get entries k ≡ Some p → IsAhead p.priority k of → is_agreed p.fields fields ≡ false

abbrev pub NoEntryAhead : List PulledEntry → Option Rank → (Field → Option ℕ) → Type 0
NoEntryAhead entries of fields = NoneAhead entries (length entries) of fields

abbrev pub ranked_place : Option Rank → Option ℕ
ranked_place of = option_map (λ (r : Rank). r.place) of

-- the entry at a place matches, and none that goes before it
pub record IsHitAt (entries : List PulledEntry) (k : ℕ) (fields : Field → Option ℕ) : Type 0 where
  pub entry : PulledEntry
  pub there : slice_get entries k ≡ Some entry
  pub matches : is_agreed entry.fields fields ≡ true
  pub first : NoEntryAhead entries (Some (record { priority = entry.priority; place = k })) fields

-- that one wins, or no entry matches
abbrev pub IsHitOrMiss : List PulledEntry → Option ℕ → (Field → Option ℕ) → Type 0
IsHitOrMiss entries None fields = NoEntryAhead entries None fields
IsHitOrMiss entries (Some k) fields = IsHitAt entries k fields

-- ---- parts

-- the packets of a part that an entry does not match, if it goes before
pub record IsPartBehind (p : PulledEntry) (place : ℕ) (of : Option Rank) (old new : Part) : Type 0 where
  pub within : (fields : Field → Option ℕ) → InPart new fields → InPart old fields × (IsAhead p.priority place of → is_agreed p.fields fields ≡ false)
  pub all : (fields : Field → Option ℕ) → InPart old fields → (IsAhead p.priority place of → is_agreed p.fields fields ≡ false) → InPart new fields
  pub conditions : AreListsOfConditions old.lacks.items → AreListsOfConditions new.lacks.items

-- those that none of the first n entries matches that goes before
pub record IsPartBehindAll (entries : List PulledEntry) (n : ℕ) (of : Option Rank) (old new : Part) : Type 0 where
  pub within : (fields : Field → Option ℕ) → InPart new fields → InPart old fields × NoneAhead entries n of fields
  pub all : (fields : Field → Option ℕ) → InPart old fields → NoneAhead entries n of fields → InPart new fields
  pub conditions : AreListsOfConditions old.lacks.items → AreListsOfConditions new.lacks.items

-- ---- branches

-- the same branches, or one more
abbrev pub HasOneMore : (Branch → Type 0) → List Branch → List Branch → Type 0
HasOneMore P old new = (new ≡ old) ⊎ ((b : Branch) × (new ≡ old ++ b ∷ []) × P b)

-- packets of a part that these conditions match, and no entry that goes before
pub record IsBranchBehind (part : Part) (entries : List PulledEntry) (m : List MatchField) (of : Option Rank) (b : Branch) : Type 0 where
  pub entry : b.entry ≡ ranked_place of
  pub within : (fields : Field → Option ℕ) → InPart b.part fields → InPart part fields × (matches_map m fields ≡ true) × NoEntryAhead entries of fields
  pub conditions : AreListsOfConditions b.part.lacks.items

-- one more branch at most: all such packets
pub record AddsBranch (part : Part) (entries : List PulledEntry) (m : List MatchField) (of : Option Rank) (old new : List Branch) : Type 0 where
  pub grown : HasOneMore (IsBranchBehind part entries m of) old new
  pub all : (fields : Field → Option ℕ) → IsSomeTagging fields → InPart part fields → matches_map m fields ≡ true → NoEntryAhead entries of fields → (b : Branch) × Contains new b × InPart b.part fields

-- packets of a part that hit an entry, or none
pub record IsHitBranch (part : Part) (entries : List PulledEntry) (w : Option ℕ) (b : Branch) : Type 0 where
  pub entry : b.entry ≡ w
  pub within : (fields : Field → Option ℕ) → InPart b.part fields → InPart part fields × IsHitOrMiss entries w fields
  pub conditions : AreListsOfConditions b.part.lacks.items

-- one more branch at most: all such packets
pub record AddsHit (part : Part) (entries : List PulledEntry) (w : Option ℕ) (old new : List Branch) : Type 0 where
  pub grown : HasOneMore (IsHitBranch part entries w) old new
  pub all : (fields : Field → Option ℕ) → IsSomeTagging fields → InPart part fields → IsHitOrMiss entries w fields → (b : Branch) × Contains new b × InPart b.part fields
