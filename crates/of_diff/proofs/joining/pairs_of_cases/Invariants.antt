use Rattle.std.proofs.Common.{◌≡◌, map}
use Rattle.of_diff.specs.Pairs.{pair_of_case}
use Rattle.of_diff.proofs.joining.pairs_of_cases.Given as goal

abbrev pub invariant-loop-case : goal.invariant-loop-case
invariant-loop-case l = l.pairs.items ≡ map pair_of_case l.yielded
