-- THE PACKETS OF REGIONS on which conditions agree.
use Rattle.std.specs.Prelude.{◌≡◌, ◌⊎◌, ℕ, Bool, true, false, List, Option}
use Rattle.of_layers.specs.{declared.field.Field.Field, declared.field.Field.TheVariants.VlanPcp, declared.field.Field.TheVariants.VlanVid}
use Rattle.of_oxm.specs.{declared.match_field.MatchField.MatchField, Relations.matches_map}
use Rattle.of_regions.specs.{declared.region.Region.Region, Regions.InRegion, Regions.IsSomeTagging, Searching.InSome}

-- a condition on the outermost VLAN tag
abbrev pub is_of_tag : Field → Bool
is_of_tag VlanVid = true
is_of_tag VlanPcp = true
is_of_tag f = false

abbrev pub is_tag_field : MatchField → Bool
is_tag_field e = is_of_tag e.field

-- the packets of a region with which conditions agree come to the others
pub record IsNarrowedBy (fields : List MatchField) (r : Region) (old new : List Region) : Type 0 where
  pub within : (map : Field → Option ℕ) → InSome new map → InSome old map ⊎ (InRegion r map × (matches_map fields map ≡ true))
  pub kept : (map : Field → Option ℕ) → InSome old map → InSome new map
  pub all : (map : Field → Option ℕ) → IsSomeTagging map → InRegion r map → matches_map fields map ≡ true → InSome new map

-- the packets of regions with which conditions agree: no other packet, and each that has a tag or none
pub record AreNarrowed (fields : List MatchField) (old new : List Region) : Type 0 where
  pub within : (map : Field → Option ℕ) → InSome new map → InSome old map × (matches_map fields map ≡ true)
  pub all : (map : Field → Option ℕ) → IsSomeTagging map → InSome old map → matches_map fields map ≡ true → InSome new map
