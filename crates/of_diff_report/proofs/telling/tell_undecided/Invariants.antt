use Rattle.std.{specs.List.AllByRecursion, proofs.Common.◌≡◌, proofs.Common.◌++◌, proofs.Common.drop, proofs.Common.map}
use Rattle.of_diff_report.specs.Telling.{HasRegion, set_of}
use Rattle.of_diff_report.proofs.telling.tell_undecided.Given as goal

abbrev pub invariant-loop-set : goal.invariant-loop-set
invariant-loop-set l = record {
  sets : map set_of l.told.items ++ drop l.set-index l.undecided ≡ l.undecided;
  regions : AllByRecursion HasRegion l.told.items;
}
