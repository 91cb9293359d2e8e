use Rattle.std.proofs.Common.{◌≡◌, ℕ, ◌<◌, ◌≤◌, ◌*◌, true, Option, length, get_or}
use Rattle.std.specs.List.{Contains}
use Rattle.of_layers.specs.declared.field.Field.{Field}
use Rattle.of_oxm.specs.Relations.{matches_map}
use Rattle.of_frames.specs.{declared.shape.Shape.Shape, declared.shape.Tagging.Tagging, Rules.HasShape, Rules.IsTagging}
use Rattle.of_regions.specs.{declared.region.Region.Region, Regions.InRegion, Searching.InSome}
use Rattle.of_regions.proofs.starting.regions_of.Given as goal

abbrev pub invariant-loop-shape : goal.invariant-loop-shape
invariant-loop-shape l = record {
  all : (s : Shape) → Contains l.shape-items s;
  ten : length l.shape-items ≡ 10;
  few : length l.regions.items ≤ 2 * l.shape-index;
  matched : (r : Region) → Contains l.regions.items r → (fields : Field → Option ℕ) → InRegion r fields → matches_map l.own fields ≡ true;
  done : (i : ℕ) → i < l.shape-index → (s : Shape) → get_or l.shape-items i s ≡ s → (t : Tagging) (fields : Field → Option ℕ) → HasShape s fields → IsTagging t fields → matches_map l.own fields ≡ true → InSome l.regions.items fields;
}
