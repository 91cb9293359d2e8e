use Rattle.std.proofs.Common.{◌∙◌, ap, ℕ, List, ◌++◌}
use Rattle.std.specs.Prelude.{map}
use Rattle.of_text.specs.Views.{view_flows, view_groups}
use Rattle.of_import.{specs.ParsedLinesViews.view_flow_line, specs.ParsedLinesViews.view_group_line, proofs.RowLemmas.parsed_rows, proofs.RowLemmas.parsed_flows, proofs.RowLemmas.parsed_groups}
use Rattle.of_import.proofs.ImportLemmas.{config_is, refused_is}
use Rattle.of_import.proofs.import.configure.Goals as goal

pub configured-requires : goal.configured-requires
configured-requires c = parsed_rows c.args.groups.now c.args.flows.now (view_groups c.in_ok-groups.groups.items) (view_flows c.in_ok-flows.flows.items) c.requires.groups c.requires.flows c.in_ok-groups.ensures.groups c.in_ok-flows.ensures.flows

pub returns-clause-found : goal.returns-clause-found
returns-clause-found c = config_is c.configured.result (map view_group_line c.args.groups.now) (map view_flow_line c.args.flows.now) _ _ (c.in_ok-groups.ensures.groups ∙ parsed_groups c.args.groups.now) (c.in_ok-flows.ensures.flows ∙ parsed_flows c.args.flows.now) c.configured.ensures.found

pub returns-clause-failed : goal.returns-clause-failed
returns-clause-failed c =
    refused_is c.configured.result c.args.groups.now c.args.flows.now c.deref.result.now _ _ (c.in_ok-groups.ensures.groups ∙ parsed_groups c.args.groups.now) (c.in_ok-flows.ensures.flows ∙ parsed_flows c.args.flows.now)
    (c.deref.ensures.value ∙ (c.in_ok-flows.ensures.lines ∙ ap (λ (xs : List ℕ). xs ++ map (λ f. f.line) c.args.flows.now) (c.in_ok-groups.ensures.lines ∙ ap (λ (xs : List ℕ). xs ++ map (λ g. g.line) c.args.groups.now) c.new-lines.ensures.items))) c.configured.ensures.failed
