use Rattle.std.proofs.{Common.arith, lemmas.List.length-map}
use Rattle.of_table.specs.{Entries.table_of, Tables.tables_of}
use Rattle.of_statistics.{specs.Replies.with_rows, specs.Flows.flow_row, specs.Flows.listed_in, proofs.Walks.rows_of_more}
use Rattle.of_statistics.proofs.flows.flow_replies.Goals as goal

pub loop-table-init : goal.loop-table-init
unfolding with_rows
loop-table-init g c = c.in_ok-out.ensures

pub loop-table-preserved : goal.loop-table-preserved
loop-table-preserved g c =
    let ts = (tables_of c.args.tables.now).tables in
    rows_of_more (flow_row c.args.tables.now.latest) (listed_in c.args.which.now) c.loop-table.table ts _ c.loop-table.out c.put_table.new.out (omega (arith, c.known.ensures.sixteen, length-map c.args.tables.now.tables table_of)) c.loop-table.invariant c.in_ok-put_table.ensures
