use Rattle.std.proofs.Common.{◌≡◌, ◌++◌, ◌+◌, ◌≤◌, length}
use Rattle.of_headers.specs.FieldMap.{value}
use Rattle.of_table.specs.{Entries.flows_of, Tables.table_at}
use Rattle.of_trace.specs.Notes.{reasons_from}
use Rattle.of_trace.proofs.reasons.push_reasons.Given as goal

abbrev pub invariant-loop-entry : goal.invariant-loop-entry
invariant-loop-entry g l =
    let flows = (table_at l.table l.switch.core.forwarding.tables).flows in
    record {
      few : l.place + length l.entry-iterator ≤ 4096;
      text : l.out.items ++ reasons_from l.style l.asked l.table (value l.key) flows l.place (flows_of l.entry-iterator) ≡ l.fn.out.items ++ reasons_from l.style l.asked l.table (value l.key) flows 0 flows;
    }
