use Rattle.std.proofs.Common.{take}
use Rattle.of_symbolic.proofs.PartLemmas.{AreApart}
use Rattle.of_symbolic.proofs.part.are_apart.Given as goal

abbrev pub invariant-loop-region : goal.invariant-loop-region
invariant-loop-region l = AreApart l.fields (take l.region-index l.regions)
