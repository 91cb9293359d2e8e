use Rattle.of_diff.specs.Pairs.{AreBySecond}
use Rattle.of_diff.proofs.pair.pairs_by_second.Given as goal

abbrev pub invariant-loop-case : goal.invariant-loop-case
invariant-loop-case l = AreBySecond l.first l.yielded l.pairs.items
