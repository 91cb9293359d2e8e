-- Regions that are appended.
use Rattle.std.specs.Prelude.{◌≡◌, ◌≤◌, ◌+◌, ◌⊎◌, ℕ, true, List, [], ◌∷◌, Option, None, Some, length}
use Rattle.std.specs.List.{Contains}
use Rattle.of_layers.specs.declared.field.Field.{Field}
use Rattle.of_oxm.specs.{declared.match_field.MatchField.MatchField, Relations.matches_map}
use Rattle.of_frames.specs.{declared.shape.Shape.Shape, declared.shape.Tagging.Tagging, Rules.HasShape, Rules.IsTagging}
use Rattle.of_regions.specs.{declared.region.Region.Region, Regions.InRegion, Searching.InSome}

-- none, or one
abbrev pub region_list : Option Region → List Region
region_list None = []
region_list (Some r) = r ∷ []

-- one region more, or two: packets of a shape that a match matches
pub record IsBegun (own : List MatchField) (s : Shape) (old new : List Region) : Type 0 where
  pub few : length new ≤ length old + 2
  pub kept : (r : Region) → Contains old r → Contains new r
  pub matched : (r : Region) → Contains new r → Contains old r ⊎ ((fields : Field → Option ℕ) → InRegion r fields → matches_map own fields ≡ true)
  pub all : (t : Tagging) (fields : Field → Option ℕ) → HasShape s fields → IsTagging t fields → matches_map own fields ≡ true → InSome new fields
