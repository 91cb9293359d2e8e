use Rattle.std.proofs.Common.{◌∙◌, sym}
use Rattle.of_import.{specs.ParsedLines.FlowAt, specs.ParsedLinesViews.view_flow_line, specs.TableNumbers.concerns_table, proofs.ParsedLinesLemmas.any_mapped}
use Rattle.of_import.proofs.table_numbers.occurs.Goals as goal

pub returns : goal.returns
returns c = c.some_names.ensures ∙ sym (any_mapped view_flow_line (λ (f : FlowAt). concerns_table c.args.table f.flow) c.args.flows.now)
