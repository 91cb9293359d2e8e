use Rattle.std.proofs.Common.{◌≡◌, length, ap, sym, ◌∙◌, arith}
use Rattle.of_messages.proofs.Appended.{four_parts}
use Rattle.of_table.specs.{Table.Table, Tables.table_at, Tables.tables_of}
use Rattle.of_statistics.{specs.Flows.table_row, proofs.Counts.length_in, proofs.Walks.table_at_is}
use Rattle.of_statistics.proofs.tables.put_table.Goals as goal

pub overflow_cast-count_of : goal.overflow_cast-count_of
overflow_cast-count_of g c =
    let few = (c.known.ensures.sound c.args.table).few in
    omega (arith, few, length_in c.args.table c.args.tables.now c.entries.result c.count_of.result c.entries.ensures c.count_of.ensures)

pub returns : goal.returns
unfolding table_row
returns g c =
    let t = table_at c.args.table (tables_of c.args.tables.now) in
    let count : c.count_of.result ≡ length t.flows = length_in c.args.table c.args.tables.now c.entries.result c.count_of.result c.entries.ensures c.count_of.ensures in
    let at = table_at_is c.args.table c.args.tables.now in
    let lookups : c.lookups.result ≡ t.lookups = c.lookups.ensures ∙ sym (ap (λ (u : Table). u.lookups) at) in
    let matched : c.matched.result ≡ t.matched = c.matched.ensures ∙ sym (ap (λ (u : Table). u.matched) at) in
    four_parts c.put_u64-2.result c.args.out.now.items c.put_u64-2.new.out.items _ _ _ _ c.in_ok-extend_from_slice.ensures.items (rw count at c.in_ok-put_u32.ensures) (rw lookups at c.in_ok-put_u64.ensures) (rw matched at c.put_u64-2.ensures)
