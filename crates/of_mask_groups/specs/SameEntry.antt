-- The oldest entry of a match and a priority.
use Rattle.std.specs.Prelude.{◌≡◌, ℕ, ◌≤◌, Bool, true, false, ◌==◌, ◌&&◌, nat_le, if◌then◌else◌, List, Option, Some, None}
use Rattle.std.specs.List.{Contains}
use Rattle.slab.specs.Slab.{Slab, get}
use Rattle.of_oxm.specs.{declared.match_field.MatchField.MatchField, SameMatch.is_same_match}
use Rattle.of_mask_groups.specs.declared.entry.Entry.{Entry}

abbrev pub is_same_entry : List MatchField → ℕ → Entry → Bool
is_same_entry fields p e = e.priority == p && is_same_match e.fields fields

-- the older of the oldest so far and an entry of a number
abbrev pub older_entry : Option (ℕ × ℕ) → ℕ → Entry → Option (ℕ × ℕ)
older_entry None n e = Some (n, e.age)
older_entry (Some best) n e = if nat_le best.1 e.age then Some best else Some (n, e.age)

-- the same, where there is an entry of that match and priority
abbrev pub older_same : List MatchField → ℕ → Option (ℕ × ℕ) → ℕ → Option Entry → Option (ℕ × ℕ)
older_same fields p best n None = best
older_same fields p best n (Some e) = if is_same_entry fields p e then older_entry best n e else best

pub record IsOldestAt (entries : Slab Entry) (numbers : List ℕ) (fields : List MatchField) (p n a : ℕ) : Type 0 where
  pub among : Contains numbers n
  pub entry : Entry
  pub stands : get entries n ≡ Some entry
  pub same : is_same_entry fields p entry ≡ true
  pub aged : entry.age ≡ a
  pub least : (m : ℕ) (d : Entry) → Contains numbers m → get entries m ≡ Some d → is_same_entry fields p d ≡ true → a ≤ d.age

-- the number and the age of the oldest one of that match and priority among those of these numbers, or none
abbrev pub IsOldestAmong : Slab Entry → List ℕ → List MatchField → ℕ → Option (ℕ × ℕ) → Type 0
IsOldestAmong entries numbers fields p None = (m : ℕ) (d : Entry) → Contains numbers m → get entries m ≡ Some d → is_same_entry fields p d ≡ false
IsOldestAmong entries numbers fields p (Some best) = IsOldestAt entries numbers fields p best.0 best.1

abbrev pub IsOldestSame : Slab Entry → List ℕ → List MatchField → ℕ → Option ℕ → Type 0
IsOldestSame entries numbers fields p None = IsOldestAmong entries numbers fields p None
IsOldestSame entries numbers fields p (Some n) = (a : ℕ) × IsOldestAt entries numbers fields p n a
