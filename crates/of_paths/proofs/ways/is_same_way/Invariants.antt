use Rattle.std.{specs.Slice.Iter.iter_rest, proofs.Common.drop}
use Rattle.of_symbolic_run.proofs.Pairing.{SameIfLeft}
use Rattle.of_paths.specs.Ways.{way_of}
use Rattle.of_paths.proofs.ways.is_same_way.Given as goal

abbrev pub invariant-loop-step : goal.invariant-loop-step
invariant-loop-step l = SameIfLeft (way_of l.a) (way_of l.b) (way_of (drop l.step-index l.a)) (way_of (iter_rest l.others))
