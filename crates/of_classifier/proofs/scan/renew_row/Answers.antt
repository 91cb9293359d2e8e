use Rattle.std.proofs.Common.{◌<◌, length, ◌∙◌}
use Rattle.of_wire.proofs.NumberedLemmas.{renewed_at, renewed_unused}
use Rattle.of_classifier.specs.Rows.{row_number}
use Rattle.of_classifier.proofs.scan.renew_row.Goals as goal

pub returns-in-Ok : goal.returns-in-Ok
returns-in-Ok c =
    let rows = c.args.rows.now.items in
    let within : c.in-Some.place < length rows = rw c.deref.ensures.value at c.in-Some.ensures.within in
    let found = rw c.deref.ensures.value at (c.in-Some.ensures.found c.remove-row.result) in
    let row = c.remove-row.ensures.value in
    c.in-Ok.ensures.items ∙ rw (c.remove-row.ensures.items, row) (renewed_at row_number rows c.in-Some.place c.remove-row.result c.args.number c.requires within found)

pub returns-in-None : goal.returns-in-None
returns-in-None c = renewed_unused row_number c.args.rows.now.items c.args.number (rw c.deref.ensures.value at c.in-None.ensures.none)
