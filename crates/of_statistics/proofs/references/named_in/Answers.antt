use Rattle.std.{specs.Prelude.Some, specs.List.count_by, proofs.Common.◌≡◌, proofs.Common.◌<◌, proofs.Common.length, proofs.Common.arith, proofs.lemmas.List.length-map}
use Rattle.std.proofs.lemmas.List.Sums.{count_by-le-length}
use Rattle.of_table.specs.{Entries.table_of, Selecting.names_group, Tables.table_at, Tables.tables_of}
use Rattle.of_statistics.proofs.Counts.{count_in, count_more}
use Rattle.of_statistics.proofs.references.named_in.Goals as goal

pub loop-table-preserved : goal.loop-table-preserved
loop-table-preserved g c =
    let k = c.loop-table.table in
    let p = names_group (Some c.args.group) in
    let ts = (tables_of c.args.tables.now).tables in
    let there : k < length ts = omega (arith, c.known.ensures.sixteen, length-map c.args.tables.now.tables table_of) in
    let flows = (table_at k (tables_of c.args.tables.now)).flows in
    let counted : c.named_by-count.result ≡ count_by p flows = count_in p k c.args.tables.now c.entries.result c.named_by-count.result c.entries.ensures c.named_by-count.ensures in
    record {
      count = count_more p k ts c.loop-table.count c.named_by-count.result there c.loop-table.invariant.count counted;
      few = omega (arith, c.loop-table.invariant.few, counted, count_by-le-length p flows, (c.known.ensures.sound k).few);
    }
