use Rattle.std.{specs.Prelude.map, proofs.Common.vec_len}
use Rattle.of_import.{specs.Digests.digests_of, specs.Digests.HasDigests, specs.ParsedLinesViews.view_flow_line, proofs.KeptLemmas.Older}
use Rattle.of_import.proofs.kept.youngest.Given as goal

abbrev pub decreases-loop-it : goal.decreases-loop-it
decreases-loop-it l = vec_len l.left

abbrev pub invariant-loop-it : goal.invariant-loop-it
invariant-loop-it l = record {
  older : Older (map view_flow_line l.fn.flows.items) l.left.items l.later.items;
  digests : HasDigests (digests_of l.later.items) l.places;
}
