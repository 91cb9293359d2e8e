use Rattle.std.proofs.Common.{arith}
use Rattle.of_table.specs.Entries.{entry_of}
use Rattle.of_statistics.proofs.FlowRows.{row_begun, row_length, row_is, row_short}
use Rattle.of_statistics.proofs.flows.put_row.Goals as goal

pub overflow_cast-size : goal.overflow_cast-size
overflow_cast-size c =
    let begun = row_begun c.args.now c.args.table (entry_of c.args.entry.now) c.args.row.now.items c.put_instructions.new.out.items c.requires c.in_ok-extend_from_slice.ensures.items c.in_ok-put_times.ensures c.in_ok-put_counts.ensures c.in_ok-put_match.ensures.canonical c.in_ok-put_instructions.ensures.canonical in
    omega (arith, row_length c.args.now c.args.table (entry_of c.args.entry.now) c.put_instructions.new.out.items begun, c.in_ok-put_match.ensures.short, c.in_ok-put_instructions.ensures.short, c.len-size.ensures, c.put_instructions.new.out.ok.0)

pub returns-clause-row : goal.returns-clause-row
returns-clause-row c =
    let begun = row_begun c.args.now c.args.table (entry_of c.args.entry.now) c.args.row.now.items c.put_instructions.new.out.items c.requires c.in_ok-extend_from_slice.ensures.items c.in_ok-put_times.ensures c.in_ok-put_counts.ensures c.in_ok-put_match.ensures.canonical c.in_ok-put_instructions.ensures.canonical in
    let size = row_length c.args.now c.args.table (entry_of c.args.entry.now) c.put_instructions.new.out.items begun in
    row_is c.args.now c.args.table c.len-size.result (entry_of c.args.entry.now) c.put_instructions.new.out.items c.replace_u16.new.out.items begun (omega (arith, size, c.len-size.ensures, c.put_instructions.new.out.ok.0)) c.replace_u16.ensures

pub returns-clause-short : goal.returns-clause-short
returns-clause-short c = rw (returns-clause-row c) (row_short c.args.now (record { table = c.args.table; entry = entry_of c.args.entry.now }) c.in_ok-put_match.ensures.short c.in_ok-put_instructions.ensures.short)
