use Rattle.std.proofs.Common.{map}
use Rattle.of_paths.{specs.Ways.class_way, specs.Ways.way_of, proofs.WayLemmas.HasNoneSoFar}
use Rattle.of_paths.proofs.ways.place_of_way.Given as goal

abbrev pub invariant-loop-index : goal.invariant-loop-index
invariant-loop-index l = HasNoneSoFar (map class_way l.classes) l.index (way_of l.steps)
