use Rattle.std.proofs.Common.{arith}
use Rattle.of_import.{specs.Notes.mark_notes, specs.ParsedLinesViews.view_flow_line, proofs.NoteLemmas.notes_more}
use Rattle.of_import.proofs.notes.push_marks.Goals as goal

pub loop-it-preserved : goal.loop-it-preserved
loop-it-preserved c = notes_more mark_notes view_flow_line c.args.flows.now c.loop-it.it-index c.it-item.result c.args.out.now.items c.loop-it.out.items c.push_mark.new.out.items (omega arith) c.it-item.is c.loop-it.invariant c.in_ok-push_mark.ensures
