use Rattle.std.proofs.{Common.◌+◌, Common.drop, Common.arith, lemmas.List.drop_all}
use Rattle.of_table.specs.Tables.{tables_of}
use Rattle.of_text.specs.Views.{view_flows}
use Rattle.of_datapath.proofs.LoadLemmas.{loading_start, loading_next, loading_more, loading_done, next_left, sixteen_tables}
use Rattle.of_datapath.proofs.loading.load_table.Goals as goal

pub loop-flow-init : goal.loop-flow-init
loop-flow-init g c = loading_start c.args.table c.requires.stand.0 c.args.flows.now (tables_of c.args.tables.now) (sixteen_tables c.args.tables.now c.args.table c.known.ensures.sixteen c.requires.table) c.requires.entries c.requires.stand.1 c.requires.empty

pub load_flow-requires : goal.load_flow-requires
load_flow-requires g c =
    let l = c.loop-flow in
    let next = loading_next c.args.table (view_flows c.args.flows.now) (drop l.flow-index c.args.flows.now) (drop (l.flow-index + 1) c.args.flows.now) c.flow-item.result (tables_of c.args.tables.now) (tables_of l.tables)
    (sixteen_tables c.args.tables.now c.args.table c.known.ensures.sixteen c.requires.table) l.invariant (next_left c.args.flows.now l.flow-index c.flow-item.result (omega arith) c.flow-item.is) in
    record { table = c.requires.table; entry = next.0; unlike = next.1; room = next.2 }

pub loop-flow-preserved : goal.loop-flow-preserved
loop-flow-preserved g c =
    let l = c.loop-flow in
    loading_more c.args.table (view_flows c.args.flows.now) (drop l.flow-index c.args.flows.now) (drop (l.flow-index + 1) c.args.flows.now) c.flow-item.result (tables_of c.args.tables.now) (tables_of l.tables) (tables_of c.load_flow.new.tables)
    (sixteen_tables c.args.tables.now c.args.table c.known.ensures.sixteen c.requires.table) l.invariant (next_left c.args.flows.now l.flow-index c.flow-item.result (omega arith) c.flow-item.is) c.in_ok-load_flow.ensures

pub returns : goal.returns
returns g c =
    let l = c.loop-flow in
    loading_done c.args.table (view_flows c.args.flows.now) (drop l.flow-index c.args.flows.now) (tables_of c.args.tables.now) (tables_of l.tables) l.invariant (drop_all l.flow-index c.args.flows.now (omega arith))
