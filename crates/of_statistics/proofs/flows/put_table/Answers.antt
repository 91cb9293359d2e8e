use Rattle.std.proofs.Common.{◌≡◌, false, sym, ◌∙◌, refl, map}
use Rattle.of_table.specs.Tables.{is_in, table_at, tables_of}
use Rattle.of_statistics.{specs.Flows.flow_row, specs.Flows.listed_in, proofs.Cutting.none_put}
use Rattle.of_statistics.proofs.flows.put_table.Goals as goal

pub returns-else-is_in : goal.returns-else-is_in
returns-else-is_in g c =
    let not_asked : is_in c.args.which.now.table c.args.table ≡ false = sym c.is_in.ensures ∙ c.if-is_in.false in
    none_put c.args.out.now (map (flow_row c.args.tables.now.latest) (listed_in c.args.which.now c.args.table (table_at c.args.table (tables_of c.args.tables.now)))) (rw not_asked refl)
