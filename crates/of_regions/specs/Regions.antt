-- REGIONS OF PACKETS: the packets of one shape of which some bits are known (OpenFlow 1.3.5, 5.3 and 7.2.3.7).
use Rattle.std.specs.Prelude.{◌≡◌, ◌⊎◌, ℕ, Option, Some, None}
use Rattle.of_layers.specs.declared.field.Field.{Field}
use Rattle.of_headers.specs.FieldMap.{value}
use Rattle.of_oxm.specs.Masks.{mask_at}
use Rattle.of_frames.specs.{declared.shape.Tagging.Tagging, Rules.IsTagging, Knowing.IsAmong}
use Rattle.of_regions.specs.declared.region.Region.{Region}

-- a field map that agrees with what is known
abbrev pub InRegion : Region → (Field → Option ℕ) → Type 0
InRegion r map = IsAmong (mask_at r.masks) (value r.known) map

abbrev pub InOneRegion : Option Region → (Field → Option ℕ) → Type 0
InOneRegion None map = ⊥
InOneRegion (Some r) map = InRegion r map

-- a tagging, if one is said
abbrev pub HasTagging : Option Tagging → (Field → Option ℕ) → Type 0
HasTagging None map = Unit {0}
HasTagging (Some t) map = IsTagging t map

-- a frame has a tag or none
abbrev pub IsSomeTagging : (Field → Option ℕ) → Type 0
IsSomeTagging map = (t : Tagging) × IsTagging t map

-- two parts: each packet is in one of them, and none is in both
pub record AreParts (whole first second : Region) : Type 0 where
  pub within : (map : Field → Option ℕ) → InRegion first map ⊎ InRegion second map → InRegion whole map
  pub all : (map : Field → Option ℕ) → IsSomeTagging map → InRegion whole map → InRegion first map ⊎ InRegion second map
  pub apart : (map : Field → Option ℕ) → InRegion first map → InRegion second map → ⊥

abbrev pub IsEither : Region → Region → Region → Region → Type 0
IsEither a b first second = ((first ≡ a) × (second ≡ b)) ⊎ ((first ≡ b) × (second ≡ a))
