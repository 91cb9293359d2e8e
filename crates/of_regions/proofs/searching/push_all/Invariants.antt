use Rattle.std.proofs.Common.{◌≡◌, map, take}
use Rattle.of_regions.proofs.searching.push_all.Given as goal

abbrev pub invariant-loop-region : goal.invariant-loop-region
invariant-loop-region l = l.rests.items ≡ map (λ r. record { region = r; from = 0 }) (take l.region-index l.regions)
