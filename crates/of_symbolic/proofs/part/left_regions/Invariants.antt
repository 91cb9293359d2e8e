use Rattle.std.proofs.Common.{take}
use Rattle.of_symbolic.specs.Parts.{AreLeftRegions}
use Rattle.of_symbolic.proofs.part.left_regions.Given as goal

abbrev pub invariant-loop-region : goal.invariant-loop-region
invariant-loop-region l = AreLeftRegions l.fields (take l.region-index l.regions) l.left.items
