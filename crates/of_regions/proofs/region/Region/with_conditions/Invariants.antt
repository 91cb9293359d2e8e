use Rattle.std.proofs.Common.{◌≡◌, ℕ, Option, true, take}
use Rattle.of_layers.specs.declared.field.Field.{Field}
use Rattle.of_oxm.specs.Relations.{matches_map}
use Rattle.of_regions.specs.Regions.{InRegion}
use Rattle.of_regions.proofs.region.Region.with_conditions.Given as goal

abbrev pub invariant-loop-e : goal.invariant-loop-e
invariant-loop-e l = record {
  within : (map : Field → Option ℕ) → InRegion l.region map → InRegion l.fn.self map × (matches_map (take l.e-index l.fields) map ≡ true);
  all : (map : Field → Option ℕ) → InRegion l.fn.self map → matches_map (take l.e-index l.fields) map ≡ true → InRegion l.region map;
  same : (l.region.shape ≡ l.fn.self.shape) × (l.region.tagging ≡ l.fn.self.tagging);
}
