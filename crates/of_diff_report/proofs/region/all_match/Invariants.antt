use Rattle.std.proofs.Common.{take}
use Rattle.of_diff_report.proofs.RegionLemmas.{AreWhole}
use Rattle.of_diff_report.proofs.region.all_match.Given as goal

abbrev pub invariant-loop-region : goal.invariant-loop-region
invariant-loop-region l = AreWhole l.fields (take l.region-index l.regions)
