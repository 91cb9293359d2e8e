use Rattle.std.proofs.Common.{◌≡◌, [], drop}
use Rattle.of_diff_report.specs.DiffWords.{wheres_after}
use Rattle.of_diff_report.proofs.words.places_of.Given as goal

abbrev pub invariant-loop-difference : goal.invariant-loop-difference
invariant-loop-difference l = wheres_after l.places.items (drop l.difference-index l.also) ≡ wheres_after [] l.also
