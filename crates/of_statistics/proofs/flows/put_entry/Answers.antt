use Rattle.std.proofs.Common.{◌≡◌, true, false, sym, ◌∙◌, refl}
use Rattle.of_table.specs.{Entries.entry_of, Selecting.selects}
use Rattle.of_statistics.{specs.Flows.rows_of_one, proofs.Cutting.row_put, proofs.Cutting.none_put}
use Rattle.of_statistics.proofs.flows.put_entry.Goals as goal

pub returns-in_ok-put_row : goal.returns-in_ok-put_row
returns-in_ok-put_row c =
    let asked : selects c.args.which.now (entry_of c.args.entry.now) ≡ true = sym c.selects.ensures ∙ c.if-selects.true in
    row_put c.push.result c.args.out.now c.push.new.self _ (rows_of_one c.args.now c.args.which.now c.args.table (entry_of c.args.entry.now)) (rw asked refl) (rw (c.deref.ensures.value, c.in_ok-put_row.ensures.row) at c.push.ensures)

pub returns-else-selects : goal.returns-else-selects
returns-else-selects c =
    let not_asked : selects c.args.which.now (entry_of c.args.entry.now) ≡ false = sym c.selects.ensures ∙ c.if-selects.false in
    none_put c.args.out.now (rows_of_one c.args.now c.args.which.now c.args.table (entry_of c.args.entry.now)) (rw not_asked refl)
