use Rattle.std.proofs.Common.{◌<◌, ◌≤◌, length, sym, arith}
use Rattle.std.proofs.lemmas.List.{length-map, take_all}
use Rattle.of_table.specs.{Entries.table_of, Tables.tables_of}
use Rattle.of_statistics.{specs.Adding.nothing, proofs.Sums.plus_none, proofs.Sums.table_added, proofs.Sums.totals_are}
use Rattle.of_statistics.proofs.aggregate.totals_in.Goals as goal

pub loop-table-init : goal.loop-table-init
loop-table-init g c = record { totals = sym (plus_none nothing); few = omega arith }

pub loop-table-preserved : goal.loop-table-preserved
loop-table-preserved g c =
    let ts = (tables_of c.args.tables.now).tables in
    let there : c.loop-table.table < length ts = omega (arith, c.known.ensures.sixteen, length-map c.args.tables.now.tables table_of) in
    record {
      totals = table_added c.args.which.now c.loop-table.table ts c.loop-table.totals c.add_table.new.totals there c.loop-table.invariant.totals c.add_table.ensures.totals;
      few = omega (arith, c.loop-table.invariant.few, c.add_table.ensures.few);
    }

pub returns : goal.returns
returns g c =
    let ts = tables_of c.args.tables.now in
    let all : length ts.tables ≤ c.loop-table.table = omega (arith, c.known.ensures.sixteen, length-map c.args.tables.now.tables table_of) in
    totals_are c.args.which.now ts c.loop-table.totals (rw (take_all c.loop-table.table ts.tables all) at c.loop-table.invariant.totals)
