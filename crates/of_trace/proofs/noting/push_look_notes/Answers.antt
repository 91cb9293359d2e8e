use Rattle.of_headers.specs.FieldMap.{value}
use Rattle.of_table.specs.Tables.{table_at}
use Rattle.of_trace.{specs.Notes.look_notes, specs.Notes.table_notes, specs.Sights.key_seen, proofs.NotingLemmas.look_is, proofs.NotingLemmas.same_part}
use Rattle.of_trace.proofs.noting.push_look_notes.Goals as goal

pub returns : goal.returns
returns g c =
    let f = c.args.switch.now.core.forwarding in
    let flows = (table_at c.args.table f.tables).flows in
    same_part c.push_table_notes.result c.args.out.now.items c.push_table_notes.new.out.items (table_notes c.args.style c.args.asked c.args.table (value c.key.result) flows) (look_notes c.args.style f c.args.asked c.args.table (key_seen c.args.sight.now))
    (look_is c.args.style f c.args.asked c.args.table (value c.key.result) (key_seen c.args.sight.now) c.if-table-ge-TABLES.false c.key.ensures) c.push_table_notes.ensures
