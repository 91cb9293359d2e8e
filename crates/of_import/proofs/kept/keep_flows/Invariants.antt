use Rattle.std.{specs.Prelude.map, proofs.Common.vec_len}
use Rattle.of_import.{specs.Kept.groups_in, specs.KeptViews.view_refusal, specs.ParsedLinesViews.view_flow_line, specs.ParsedLinesViews.view_group_line, proofs.KeptLemmas.Sifting}
use Rattle.of_import.proofs.kept.keep_flows.Given as goal

abbrev pub decreases-loop-it : goal.decreases-loop-it
decreases-loop-it l = vec_len l.left

abbrev pub invariant-loop-it : goal.invariant-loop-it
invariant-loop-it l = Sifting (groups_in (map view_group_line l.groups)) (map view_flow_line l.fn.flows.items) (map view_refusal l.fn.refused.items) l.left.items l.kept.items (map view_refusal l.refused.items)
