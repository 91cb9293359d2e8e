-- What a lookup does to the rows.
use Rattle.std.specs.Prelude.{◌≡◌, ◌⊎◌, ℕ, ◌-◌, List, ◌∷◌, ◌++◌, take, Option}
use Rattle.std.specs.List.{Contains}
use Rattle.of_layers.specs.declared.field.Field.{Field}
use Rattle.of_headers.specs.FieldMap.{value, seen}
use Rattle.of_oxm.specs.Masks.{mask_at}
use Rattle.of_cache.specs.Regions.{AnsweredRegion, Holds}

-- a row whose region holds the key comes first, and the others keep their order
pub record ComesFirst (old new : List AnsweredRegion) (key : Field → Option ℕ) : Type 0 where
  pub row : AnsweredRegion
  pub before : List AnsweredRegion
  pub after : List AnsweredRegion
  pub stood : old ≡ before ++ row ∷ after
  pub holds : Holds row.0 key
  pub first : new ≡ row ∷ (before ++ after)

-- and its answer is this one
pub record IsHit (old new : List AnsweredRegion) (key : Field → Option ℕ) (answer : Option (ℕ × ℕ)) : Type 0 where
  pub moved : ComesFirst old new key
  pub answers : moved.row.1 ≡ answer

-- no row's region holds the key
abbrev pub NoneHolds : List AnsweredRegion → (Field → Option ℕ) → Type 0
NoneHolds rows key = (row : AnsweredRegion) → Contains rows row → Holds row.0 key → ⊥

-- a row comes first whose region is the key under the mask; of as many rows as there may be the last one goes
pub record IsAdded (old new : List AnsweredRegion) (capacity : ℕ) (mask key : Field → Option ℕ) : Type 0 where
  pub row : AnsweredRegion
  pub bits : (f : Field) → mask_at row.0.mask f ≡ mask f
  pub shows : (f : Field) → value row.0.key f ≡ seen (mask f) (key f)
  pub first : new ≡ row ∷ take (capacity - 1) old

-- Where a row holds the key, it comes first. Else the rows stay, or the one of the key under the mask comes first.
abbrev pub AreFound : List AnsweredRegion → List AnsweredRegion → ℕ → (mask key : Field → Option ℕ) → Type 0
AreFound old new capacity mask key = ComesFirst old new key ⊎ (NoneHolds old key × ((new ≡ old) ⊎ IsAdded old new capacity mask key))
