use Rattle.std.proofs.Common.{◌∙◌, sym}
use Rattle.of_import.{specs.KeptViews.loses_action, specs.Notes.is_changed, specs.ParsedLinesViews.view_flow_line, proofs.KeptLemmas.counted_mapped}
use Rattle.of_import.proofs.notes.count_changed.Goals as goal

pub returns : goal.returns
unfolding loses_action
returns c = c.count_lines.ensures ∙ sym (counted_mapped view_flow_line is_changed c.args.flows.now)
