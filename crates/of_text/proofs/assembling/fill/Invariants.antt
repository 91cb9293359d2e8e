use Rattle.std.proofs.Common.{vec_len}
use Rattle.of_text.{specs.Configs.view_tables, specs.Digests.ShowsRepeats, specs.Views.view_flows, specs.Views.view_groups, proofs.FillLemmas.Filling}
use Rattle.of_text.proofs.assembling.fill.Given as goal

abbrev pub decreases-loop-flow : goal.decreases-loop-flow
decreases-loop-flow l = vec_len l.left

abbrev pub invariant-loop-flow : goal.invariant-loop-flow
invariant-loop-flow l = record {
  filling : Filling (view_groups l.groups) (view_flows l.fn.flows.items) l.left.items l.tables.items;
  repeats : ShowsRepeats l.digests (view_tables l.tables.items);
}
