-- DIFFERENCES AS THEY ARE TOLD: each with the entries that its frame hits at both switches; those whose frames hit the same changed entries are told as one.
use Rattle.std.specs.Prelude.{◌≡◌, ℕ, ◌==◌, ◌&&◌, ◌++◌, Bool, false, true, not, List, [], ◌∷◌, length, map, Some, slice_get, slice_set}
use Rattle.std.specs.{Borrow.Bor, List.AllByRecursion, List.Contains}
use Rattle.of_datapath.specs.Datapath.{Forwarding}
use Rattle.of_diff.specs.{declared.difference.Difference.Difference, declared.difference.Undecided.Undecided}
use Rattle.of_diff_report.specs.{declared.telling.Told.Told, declared.telling.ToldUndecided.ToldUndecided, Changed.AreSideHits, Changed.are_same_hits}
use Rattle.of_diff_report.specs.RegionWords.{IsRegionOfSet, IsRegionOf}

-- ---- one difference

pub record IsTold (f g : Forwarding) (d : Difference) (t : Told) : Type 0 where
  pub difference : t.difference.now ≡ d
  pub first : AreSideHits f g d.in_port d.frame.items t.first
  pub second : AreSideHits g f d.in_port d.frame.items t.second
  pub region : IsRegionOf d.sets.items t.region
  pub also : t.also.items ≡ []

-- ---- differences of the same changed entries

abbrev pub has_changed : Told → Bool
has_changed t = not (length t.first.changed.items == 0 && length t.second.changed.items == 0)

-- the frames of both hit the same changed entries, at least one
abbrev pub is_of_kind : Told → Told → Bool
is_of_kind t u = has_changed t && are_same_hits t.first.changed.items u.first.changed.items && are_same_hits t.second.changed.items u.second.changed.items

-- a further difference is told with it; its frame, hits and region stay
pub record IsJoined (old : Told) (d : Difference) (new : Told) : Type 0 where
  pub difference : new.difference ≡ old.difference
  pub first : new.first ≡ old.first
  pub second : new.second ≡ old.second
  pub region : new.region ≡ old.region
  pub also : (further : Bor Difference) × (further.now ≡ d) × (new.also.items ≡ old.also.items ++ further ∷ [])

-- with the first of its kind, or by itself behind all others
pub data PutsTold (d : Difference) (t : Told) (old new : List Told) : Type 0 where
  joined : (i : ℕ) (b c : Told) → slice_get old i ≡ Some b → is_of_kind b t ≡ true → IsJoined b d c → new ≡ slice_set old i c → PutsTold d t old new
  own : ((b : Told) → Contains old b → is_of_kind b t ≡ false) → new ≡ old ++ t ∷ [] → PutsTold d t old new

-- one after the other
abbrev pub PutsAllTold : Forwarding → Forwarding → List Difference → List Told → List Told → Type 0
PutsAllTold f g [] old new = new ≡ old
PutsAllTold f g (d ∷ ds) old new = (t : Told) × (next : List Told) × IsTold f g d t × PutsTold d t old next × PutsAllTold f g ds next new

-- THE DIFFERENCES AS THEY ARE TOLD
abbrev pub AreTold : Forwarding → Forwarding → List Difference → List Told → Type 0
AreTold f g found told = PutsAllTold f g found [] told

-- ---- frames that are undecided, each set with words for it

abbrev pub set_of : ToldUndecided → Undecided
set_of u = u.undecided.now

abbrev pub HasRegion : ToldUndecided → Type 0
HasRegion u = IsRegionOfSet u.undecided.now.frames u.region

abbrev pub AreToldUndecided : List Undecided → List ToldUndecided → Type 0
AreToldUndecided undecided told = (map set_of told ≡ undecided) × AllByRecursion HasRegion told
