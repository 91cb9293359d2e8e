use Rattle.std.{specs.Prelude.map, proofs.Common.List, proofs.Common.ap, proofs.Common.sym, proofs.Common.◌∙◌}
use Rattle.of_classifier.specs.declared.Row.{Row}
use Rattle.of_table.specs.{Table.Table, Sound.row_key, Sound.entry_key, Tables.numbered_at}
use Rattle.of_datapath.proofs.{Looking.rows_without, Worlds.table_is}
use Rattle.of_datapath.proofs.datapath.Datapath.part.Goals as goal

pub returns : goal.returns
returns g c =
    ap (λ (rows : List Row). map row_key rows) c.part.ensures
    ∙ rows_without (numbered_at c.args.table c.args.self.now.tables).entries
    ∙ sym (ap (λ (t : Table). map entry_key t.flows) (table_is c.args.self.now.tables c.args.table))
