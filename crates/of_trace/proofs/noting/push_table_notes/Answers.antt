use Rattle.of_headers.specs.FieldMap.{value}
use Rattle.of_table.specs.Tables.{table_at}
use Rattle.of_trace.{specs.Notes.reasons_from, specs.Notes.seen_notes, proofs.NotingLemmas.both}
use Rattle.of_trace.proofs.noting.push_table_notes.Goals as goal

pub returns : goal.returns
returns g c =
    let flows = (table_at c.args.table c.args.switch.now.core.forwarding.tables).flows in
    let map = value c.args.key.now in
    both c.push_reasons.result c.args.out.now.items c.push_seen.new.out.items c.push_reasons.new.out.items (seen_notes c.args.style flows map) (reasons_from c.args.style c.args.asked c.args.table map flows 0 flows) c.in_ok-push_seen.ensures c.push_reasons.ensures
