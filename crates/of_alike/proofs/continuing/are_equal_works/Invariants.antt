use Rattle.std.{specs.Slice.Iter.iter_rest, proofs.Common.drop}
use Rattle.of_symbolic_run.proofs.Pairing.{SameIfLeft}
use Rattle.of_alike.proofs.continuing.are_equal_works.Given as goal

abbrev pub invariant-loop-work : goal.invariant-loop-work
invariant-loop-work l = SameIfLeft l.a l.b (drop l.work-index l.a) (iter_rest l.others)
