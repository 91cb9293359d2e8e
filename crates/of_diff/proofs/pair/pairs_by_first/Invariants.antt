use Rattle.of_diff.specs.Pairs.{AreByFirst}
use Rattle.of_diff.proofs.pair.pairs_by_first.Given as goal

abbrev pub invariant-loop-case : goal.invariant-loop-case
invariant-loop-case l = AreByFirst l.yielded l.second l.pairs.items
