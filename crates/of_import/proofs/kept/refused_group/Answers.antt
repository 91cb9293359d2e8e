use Rattle.std.{specs.Prelude.map, proofs.Common.◌∙◌, proofs.Common.sym, proofs.Common.ap, proofs.Common.[]}
use Rattle.of_text.specs.Views.{view_flows, view_groups}
use Rattle.of_import.{specs.Kept.groups_in, specs.ParsedLinesViews.view_group_line, proofs.KeptLemmas.group_texts, proofs.KeptLemmas.refusals_same, proofs.KeptLemmas.texts_of_lines}
use Rattle.of_import.proofs.RowLemmas.{parsed_rows}
use Rattle.of_import.proofs.kept.refused_group.Goals as goal

pub refusal_among-requires : goal.refusal_among-requires
refusal_among-requires c = parsed_rows c.args.groups.now [] (view_groups c.in_ok-copies.copies.items) (view_flows c.new-flows.result.items) c.requires tt (c.in_ok-copies.ensures ∙ sym (texts_of_lines c.args.groups.now)) (ap view_flows c.new-flows.ensures.items)

pub returns-in-Ok : goal.returns-in-Ok
returns-in-Ok c = c.in-Ok.ensures ∙ refusals_same (view_groups c.in_ok-copies.copies.items) (groups_in (map view_group_line c.args.groups.now)) (view_flows c.new-flows.result.items) [] (c.in_ok-copies.ensures ∙ group_texts c.args.groups.now) (ap view_flows c.new-flows.ensures.items)
