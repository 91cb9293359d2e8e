use Rattle.std.proofs.Common.{length}
use Rattle.of_diff_report.proofs.hits.+are_same_hits.Given as goal

abbrev pub decreases-are_same_hits : goal.decreases-are_same_hits
decreases-are_same_hits l = length l.a.now
