-- For contracts of this crate and of of_diff: packets of a region by the port by which they came in (OpenFlow 1.3.5, 5.1 and 7.2.3.7).
use Rattle.std.specs.Prelude.{◌≡◌, ℕ, true, List, Option, Some}
use Rattle.std.specs.Global.{Vec}
use Rattle.of_layers.specs.{declared.field.Field.Field, declared.field.Field.TheVariants.InPort}
use Rattle.of_oxm.specs.{declared.match_field.MatchField.MatchField, Relations.agrees}
use Rattle.of_regions.specs.{declared.region.Region.Region, Regions.InRegion}
use Rattle.of_symbolic.specs.Parts.{NoneOfMatches}

-- the condition agrees with each packet of the region that came in by this port
abbrev pub MatchesAllFrom : Region → ℕ → MatchField → Type 0
MatchesAllFrom r port e = (fields : Field → Option ℕ) → InRegion r fields → fields InPort ≡ Some port → agrees e (fields e.field) ≡ true

-- if none of the lists matches a packet of the region, it came in by another port
abbrev pub HasNoneFrom : List (Vec MatchField) → ℕ → Region → Type 0
HasNoneFrom lacks port r = (fields : Field → Option ℕ) → InRegion r fields → NoneOfMatches lacks fields → fields InPort ≡ Some port → ⊥
