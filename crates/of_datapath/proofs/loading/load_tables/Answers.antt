use Rattle.std.proofs.Common.{◌<◌, length, arith}
use Rattle.of_table.specs.Tables.{tables_of}
use Rattle.of_datapath.proofs.LoadLemmas.{filled_begun, filled_empty, filled_one, filled_done}
use Rattle.of_datapath.proofs.loading.load_tables.Goals as goal

pub loop-table-init : goal.loop-table-init
loop-table-init g c = filled_begun c.args.latest c.args.config.now.tables (tables_of c.in_ok-tables.tables) c.known.ensures.sixteen c.in_ok-tables.ensures

pub load_table-requires : goal.load_table-requires
load_table-requires g c =
    let l = c.loop-table in
    let small : l.table < 16 = omega arith in
    let within : l.table < length c.args.config.now.tables = omega (arith, c.known.ensures.sixteen, small) in
    record {
      table = small;
      entries = rw c.flows.ensures (c.known.ensures.entries l.table small);
      stand = (c.args.config.now.groups, rw c.flows.ensures (c.known.ensures.stand l.table small));
      empty = filled_empty c.args.latest l.table c.args.config.now.tables (tables_of l.tables) within l.invariant;
    }

pub loop-table-preserved : goal.loop-table-preserved
loop-table-preserved g c =
    let l = c.loop-table in
    let small : l.table < 16 = omega arith in
    let within : l.table < length c.args.config.now.tables = omega (arith, c.known.ensures.sixteen, small) in
    filled_one c.args.latest l.table c.args.config.now.tables _ (tables_of l.tables) (tables_of c.load_table.new.tables) within l.invariant c.flows.ensures c.in_ok-load_table.ensures

pub returns : goal.returns
returns g c = let l = c.loop-table in filled_done c.args.latest l.table c.args.config.now.tables (tables_of l.tables) (omega (arith, c.known.ensures.sixteen)) l.invariant
