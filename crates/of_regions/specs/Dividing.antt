-- How regions are divided: by a bit that the field of a match looks at, or by tags.
use Rattle.std.specs.Prelude.{◌≡◌, ◌⊎◌, ◌^◌, ℕ, Option, None, Some, bit_and}
use Rattle.of_layers.specs.{declared.field.Field.Field, declared.field.Field.TheVariants.VlanVid}
use Rattle.of_headers.specs.FieldMap.{seen}
use Rattle.of_oxm.specs.{declared.match_field.MatchField.MatchField, Masks.mask_at, Relations.bits_looked_at}
use Rattle.of_regions.specs.{declared.region.Region.Region, Regions.AreParts, Regions.InRegion}

-- one of these bits
pub record IsBitOf (bits bit : ℕ) : Type 0 where
  pub place : ℕ
  pub is : bit ≡ 2 ^ place
  pub among : bit_and bit bits ≡ bit

-- these bits without those of a mask
pub record AreWithout (bits mask rest : ℕ) : Type 0 where
  pub among : bit_and rest bits ≡ rest
  pub none : bit_and rest mask ≡ 0
  pub all : rest ≡ 0 → bit_and bits mask ≡ bits

-- the packets of one part have a bit that the field of a match looks at, and those of the other have the field without this bit
pub record IsByBit (e : MatchField) (first second : Region) : Type 0 where
  pub bit : ℕ
  pub looked_at : IsBitOf (bits_looked_at e) bit
  pub set : (map : Field → Option ℕ) → InRegion first map → seen (Some bit) (map e.field) ≡ Some bit
  pub clear : (map : Field → Option ℕ) → InRegion second map → seen (Some bit) (map e.field) ≡ Some 0

-- the packets of one part have a tag, and those of the other none (OpenFlow 1.3.5, 7.2.3.7: the bit OFPVID_PRESENT, and OFPVID_NONE)
pub record IsByTag (first second : Region) : Type 0 where
  pub tagged : (map : Field → Option ℕ) → InRegion first map → seen (Some 0x1000) (map VlanVid) ≡ Some 0x1000
  pub untagged : (map : Field → Option ℕ) → InRegion second map → seen (Some 0x1fff) (map VlanVid) ≡ Some 0

-- by a bit of the field; or by the tag, if nothing is known of the field
abbrev pub IsDivision : MatchField → Region → Region → Region → Type 0
IsDivision e whole first second = IsByBit e first second ⊎ ((mask_at whole.masks e.field ≡ None) × IsByTag first second)

-- two parts by what the field of a match looks at, in either order
pub record AreDividedBy (e : MatchField) (whole first second : Region) : Type 0 where
  pub parts : AreParts whole first second
  pub division : IsDivision e whole first second ⊎ IsDivision e whole second first
