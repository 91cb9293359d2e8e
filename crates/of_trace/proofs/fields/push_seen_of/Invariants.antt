use Rattle.std.{specs.List.flat_map, proofs.Common.◌≡◌, proofs.Common.◌++◌, proofs.Common.drop}
use Rattle.of_headers.specs.FieldMap.{value}
use Rattle.of_table.specs.Tables.{table_at}
use Rattle.of_trace.specs.Notes.{seen_note}
use Rattle.of_trace.proofs.fields.push_seen_of.Given as goal

abbrev pub invariant-loop-field : goal.invariant-loop-field
invariant-loop-field g l =
    let flows = (table_at l.table l.switch.core.forwarding.tables).flows in
    l.out.items ++ flat_map (seen_note l.style flows (value l.key)) (drop l.field-index l.fields) ≡ l.fn.out.items ++ flat_map (seen_note l.style flows (value l.key)) l.fields
