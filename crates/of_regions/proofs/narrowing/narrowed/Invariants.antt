use Rattle.std.proofs.Common.{take}
use Rattle.of_regions.specs.Narrowing.{AreNarrowed}
use Rattle.of_regions.proofs.narrowing.narrowed.Given as goal

abbrev pub invariant-loop-region : goal.invariant-loop-region
invariant-loop-region l = AreNarrowed l.fields (take l.region-index l.regions) l.out.items
