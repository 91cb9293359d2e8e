use Rattle.std.proofs.Common.{◌≡◌, ◌++◌, drop}
use Rattle.of_diff_report.specs.{DiffWords.regions_of, declared.words.TheConstants.REGIONS}
use Rattle.of_diff_report.proofs.words.push_regions.Given as goal

abbrev pub invariant-loop-set : goal.invariant-loop-set
invariant-loop-set l =
    l.out.items ++ regions_of l.why l.left (drop l.set-index l.undecided) ≡ l.fn.out.items ++ regions_of l.why REGIONS l.undecided
