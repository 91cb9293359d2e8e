use Rattle.std.proofs.Common.{◌<◌, length, take, replicate, refl, arith}
use Rattle.std.proofs.lemmas.List.{length-map, length-take}
use Rattle.of_table.specs.{Entries.table_of, Tables.tables_of}
use Rattle.of_statistics.{specs.Flows.from_tables, specs.Flows.table_row, proofs.Sizes.room, proofs.Sizes.length_tables, proofs.Walks.bytes_of_more}
use Rattle.of_statistics.proofs.tables.table_reply.Goals as goal

pub loop-table-preserved : goal.loop-table-preserved
loop-table-preserved g c =
    let ts = (tables_of c.args.tables.now).tables in
    let there : c.loop-table.table < length ts = omega (arith, c.known.ensures.sixteen, length-map c.args.tables.now.tables table_of) in
    bytes_of_more table_row c.loop-table.table ts (replicate 16 0) c.loop-table.out.items c.put_table.new.out.items there c.loop-table.invariant c.in_ok-put_table.ensures

pub sealed-requires-clause-short : goal.sealed-requires-clause-short
sealed-requires-clause-short g c =
    let ts = (tables_of c.args.tables.now).tables in
    let rows = take c.loop-table.table ts in
    let few = length-take c.loop-table.table ts in
    room (replicate 16 0) (from_tables table_row 0 rows) c.loop-table.out.items refl c.loop-table.invariant (omega (arith, few, length_tables 0 rows, c.known.ensures.sixteen, length-map c.args.tables.now.tables table_of))
