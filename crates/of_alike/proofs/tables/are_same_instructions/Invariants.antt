use Rattle.std.{specs.Slice.Iter.iter_rest, proofs.Common.drop}
use Rattle.of_symbolic_run.proofs.Pairing.{SameIfLeft}
use Rattle.of_alike.proofs.tables.are_same_instructions.Given as goal

abbrev pub invariant-loop-x : goal.invariant-loop-x
invariant-loop-x l = SameIfLeft l.xs l.ys (drop l.x-index l.xs) (iter_rest l.others)
