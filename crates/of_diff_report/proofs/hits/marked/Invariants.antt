use Rattle.std.{specs.List.All, proofs.Common.◌≡◌, proofs.Common.◌++◌, proofs.Common.drop, proofs.Common.map}
use Rattle.of_diff_report.specs.Changed.{IsMarked, hit_of}
use Rattle.of_diff_report.proofs.hits.marked.Given as goal

abbrev pub invariant-loop-hit : goal.invariant-loop-hit
invariant-loop-hit g l = (map hit_of l.all.items ++ drop l.hit-index l.hits ≡ l.hits) × All (IsMarked l.own.core.forwarding l.other.core.forwarding) l.all.items
