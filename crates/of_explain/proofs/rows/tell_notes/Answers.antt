use Rattle.std.proofs.Common.{◌++◌, ◌∙◌, ap, List, ℕ}
use Rattle.of_replay.specs.{Rows.with_bytes, RowTexts.row_happened}
use Rattle.of_explain.{specs.Explained.row_notes, proofs.ReportLemmas.notes_told}
use Rattle.of_explain.proofs.rows.tell_notes.Goals as goal

pub returns-clause-notes : goal.returns-clause-notes
returns-clause-notes g c =
    let row = with_bytes c.args.bytes.now c.args.row in
    let h = row_happened c.args.switch.now row in
    let notes = row_notes c.args.switch.now row in
    notes_told c.play_row-called.result c.push_report.result h.report _ c.deref.result.now notes row c.args.out.now.items c.push_report.new.out.items
    c.play_row-called.ensures
    (c.deref.ensures.value ∙ (c.in_ok-push_row.ensures.text ∙ ap (λ (x : List ℕ). x ++ notes) c.new-before.ensures.items))
    (c.push_report.ensures c.args.bytes.now)
