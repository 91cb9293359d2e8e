-- The numbers of the entries whose keys have one digest.
use Rattle.std.specs.Prelude.{◌≡◌, ℕ, false, not, nat_eq, ◌==◌, ◌++◌, Option, Some, None, List, [], ◌∷◌, filter, IsSome}
use Rattle.std.specs.HashMap.{HashMap, get_by}
use Rattle.smallvec.specs.SmallVec.{SmallVec, HasRoomFor}
use Rattle.of_headers.specs.{declared.key.FieldKey.FieldKey, declared.mixer.Mixer.Mixer, Digest.digest_of}

-- the digest of a key under a secret
abbrev pub key_digest : Mixer → FieldKey → ℕ
key_digest secret k = digest_of secret k.numbers

abbrev pub small_vector_items : Option (SmallVec ℕ) → List ℕ
small_vector_items None = []
small_vector_items (Some v) = v.items

abbrev pub cell_at : {S : Type 0} → HashMap ℕ (SmallVec ℕ) S → ℕ → List ℕ
cell_at cells d = small_vector_items (get_by (nat_eq d) cells)

-- the list without a number
abbrev pub other_numbers : ℕ → List ℕ → List ℕ
other_numbers n ns = filter (λ m. not (m == n)) ns

-- there is a list under the digest
abbrev pub HasCell : {S : Type 0} → HashMap ℕ (SmallVec ℕ) S → ℕ → Type 0
HasCell cells d = IsSome (get_by (nat_eq d) cells)

-- there is a list under the digest, with capacity for one more number
pub record HasRoomAt {S : Type 0} (cells : HashMap ℕ (SmallVec ℕ) S) (d : ℕ) : Type 0 where
  pub cell : SmallVec ℕ
  pub stands : get_by (nat_eq d) cells ≡ Some cell
  pub room : HasRoomFor cell 1

-- a list that is there has a number: there are no more lists than entries
abbrev pub AreOccupied : {S : Type 0} → HashMap ℕ (SmallVec ℕ) S → Type 0
AreOccupied cells = (d : ℕ) → HasCell cells d → cell_at cells d ≡ [] → ⊥

-- but for the list under one digest, which may be empty
abbrev pub AreOccupiedBut : {S : Type 0} → ℕ → HashMap ℕ (SmallVec ℕ) S → Type 0
AreOccupiedBut d cells = (c : ℕ) → nat_eq d c ≡ false → HasCell cells c → cell_at cells c ≡ [] → ⊥

-- one list has one more number
pub record CellMore {S : Type 0} (old new : HashMap ℕ (SmallVec ℕ) S) (d n : ℕ) : Type 0 where
  pub at : cell_at new d ≡ cell_at old d ++ n ∷ []
  pub apart : (c : ℕ) → nat_eq d c ≡ false → cell_at new c ≡ cell_at old c

-- one list lacks a number
pub record CellLess {S : Type 0} (old new : HashMap ℕ (SmallVec ℕ) S) (d n : ℕ) : Type 0 where
  pub at : cell_at new d ≡ other_numbers n (cell_at old d)
  pub apart : (c : ℕ) → nat_eq d c ≡ false → cell_at new c ≡ cell_at old c
