-- Groups of masks, and how they index the entries of a slab.
use Rattle.std.specs.Prelude.{◌≡◌, ◌⊎◌, ℕ, ◌<◌, ◌≤◌, Bool, true, Some, List, [], ◌∷◌, length, take, drop, vec_len, vec_capacity}
use Rattle.std.specs.{Global.Vec, List.Contains}
use Rattle.slab.specs.Slab.{Slab, get}
use Rattle.of_layers.specs.declared.field.Field.{Field}
use Rattle.of_headers.specs.{FieldMap.value, declared.key.FieldKey.FieldKey, declared.mixer.Mixer.Mixer}
use Rattle.of_oxm.specs.{NormalForm.IsMatch, declared.masks.FieldMask.FieldMask, Masks.looked_at, Masks.value_of, Masks.mask_at}
use Rattle.of_mask_groups.specs.Cells.{key_digest, cell_at, AreOccupied, CellMore, CellLess}
use Rattle.of_mask_groups.specs.{declared.entry.Entry.Entry, declared.group.Group.Group, Ranks.has_rank, Ranks.IsHighest}

-- ---- an entry and a group

-- the group has the number under that priority
abbrev pub is_ranked : Group → ℕ → ℕ → Bool
is_ranked g p n = has_rank g.ranks p n

-- the group is of the mask of these fields
pub record LooksLike (g : Group) (e : Entry) : Type 0 where
  pub bits : (f : Field) → mask_at g.mask f ≡ looked_at e.fields f

-- the entry asks for this key
pub record AsksFor (k : FieldKey) (e : Entry) : Type 0 where
  pub values : (f : Field) → value k f ≡ value_of e.fields f

-- an entry of the group, under its priority and number
pub record IsMember (entries : Slab Entry) (g : Group) (p n : ℕ) : Type 0 where
  pub entry : Entry
  pub stands : get entries n ≡ Some entry
  pub looks : LooksLike g entry
  pub priority : entry.priority ≡ p

-- an entry of the group that asks for a key of that digest
pub record IsInCell (entries : Slab Entry) (g : Group) (d n : ℕ) : Type 0 where
  pub entry : Entry
  pub stands : get entries n ≡ Some entry
  pub looks : LooksLike g entry
  pub asks : (k : FieldKey) → AsksFor k entry → key_digest g.secret k ≡ d
  pub ranked : is_ranked g entry.priority n ≡ true

-- the group has entries of its mask alone
pub record IsIndex (entries : Slab Entry) (g : Group) : Type 0 where
  pub settled : IsHighest g.ranks g.best
  pub members : (p n : ℕ) → is_ranked g p n ≡ true → IsMember entries g p n
  pub cells : (d n : ℕ) → Contains (cell_at g.cells d) n → IsInCell entries g d n
  pub occupied : AreOccupied g.cells

-- and at least one
pub record IsGroup (entries : Slab Entry) (g : Group) : Type 0 where
  pub index : IsIndex entries g
  pub some : g.ranks.keys ≡ [] → ⊥

-- ---- all groups

-- a later group has no higher priority, and another mask
pub record ComesBefore (g h : Group) : Type 0 where
  pub falls : h.best ≤ g.best
  pub differs : ((f : Field) → mask_at g.mask f ≡ mask_at h.mask f) → ⊥

abbrev pub AreFalling : List Group → Type 0
AreFalling [] = Unit {0}
AreFalling (g ∷ gs) = ((h : Group) → Contains gs h → ComesBefore g h) × AreFalling gs

-- this group has the entry's number, under its priority and the digest of its key
pub record IsIn (g : Group) (n : ℕ) (e : Entry) : Type 0 where
  pub looks : LooksLike g e
  pub ranked : is_ranked g e.priority n ≡ true
  pub cell : (k : FieldKey) → AsksFor k e → Contains (cell_at g.cells (key_digest g.secret k)) n

-- a group has it
pub record IsIndexed (groups : List Group) (n : ℕ) (e : Entry) : Type 0 where
  pub group : Group
  pub there : Contains groups group
  pub within : IsIn group n e

-- the groups index the entries
pub record AreGrouped (entries : Slab Entry) (groups : List Group) : Type 0 where
  pub falling : AreFalling groups
  pub each : (g : Group) → Contains groups g → IsGroup entries g
  pub complete : (n : ℕ) (e : Entry) → get entries n ≡ Some e → IsIndexed groups n e
  pub normal : (n : ℕ) (e : Entry) → get entries n ≡ Some e → IsMatch e.fields

-- ---- the digests of masks

-- the digest of a group's mask
abbrev pub mask_digest : Mixer → Group → ℕ
mask_digest secret g = key_digest secret g.mask.masks

-- groups and digests have capacity for one more
abbrev pub HaveRoom : Vec Group → Vec ℕ → Type 0
HaveRoom groups digests = (vec_len groups < vec_capacity groups) × (vec_len digests < vec_capacity digests)

-- ---- one group taken out

pub record HasSameMask (g : Group) (mask : FieldMask) : Type 0 where
  pub bits : (f : Field) → mask_at g.mask f ≡ mask_at mask f

-- The groups and one group beside them index the entries. That one may be empty.
pub record AreSplit (entries : Slab Entry) (groups : List Group) (g : Group) : Type 0 where
  pub falling : AreFalling groups
  pub each : (h : Group) → Contains groups h → IsGroup entries h
  pub differs : (h : Group) → Contains groups h → ((f : Field) → mask_at h.mask f ≡ mask_at g.mask f) → ⊥
  pub index : IsIndex entries g
  pub complete : (n : ℕ) (e : Entry) → get entries n ≡ Some e → IsIndexed groups n e ⊎ IsIn g n e
  pub normal : (n : ℕ) (e : Entry) → get entries n ≡ Some e → IsMatch e.fields

-- the place: those before have at least that priority, those from it on at most
pub record IsPlaceFor (gs : List Group) (p k : ℕ) : Type 0 where
  pub within : k ≤ length gs
  pub before : (h : Group) → Contains (take k gs) h → p ≤ h.best
  pub after : (h : Group) → Contains (drop k gs) h → h.best ≤ p

-- ---- a group that changes

-- the group has one more number, of this priority and under this digest
pub record HasMore (g h : Group) (d p n : ℕ) : Type 0 where
  pub mask : h.mask ≡ g.mask
  pub secret : h.secret ≡ g.secret
  pub settled : IsHighest h.ranks h.best
  pub ranks : (q m : ℕ) → is_ranked h q m ≡ true → (is_ranked g q m ≡ true) ⊎ ((q ≡ p) × (m ≡ n))
  pub kept : (q m : ℕ) → is_ranked g q m ≡ true → is_ranked h q m ≡ true
  pub itself : is_ranked h p n ≡ true
  pub cells : CellMore g.cells h.cells d n
  pub occupied : AreOccupied g.cells → AreOccupied h.cells

-- the group lacks that number
pub record HasLess (g h : Group) (d p n : ℕ) : Type 0 where
  pub mask : h.mask ≡ g.mask
  pub secret : h.secret ≡ g.secret
  pub settled : IsHighest h.ranks h.best
  pub ranks : (q m : ℕ) → is_ranked h q m ≡ true → (is_ranked g q m ≡ true) × (((q ≡ p) × (m ≡ n)) → ⊥)
  pub kept : (q m : ℕ) → (((q ≡ p) × (m ≡ n)) → ⊥) → is_ranked g q m ≡ true → is_ranked h q m ≡ true
  pub cells : CellLess g.cells h.cells d n
  pub occupied : AreOccupied g.cells → AreOccupied h.cells

-- the group is the same
pub record IsSame (g h : Group) : Type 0 where
  pub mask : h.mask ≡ g.mask
  pub secret : h.secret ≡ g.secret
  pub best : h.best ≡ g.best
  pub ranks : h.ranks.keys ≡ g.ranks.keys
  pub cells : (d : ℕ) → cell_at h.cells d ≡ cell_at g.cells d
  pub occupied : AreOccupied g.cells → AreOccupied h.cells
