use Rattle.of_headers.specs.FieldMap.{value}
use Rattle.of_table.specs.{Table.winner_place, Entries.flows_of}
use Rattle.of_datapath.{specs.Numbers.entries_at, proofs.Worlds.answer_is}
use Rattle.of_datapath.proofs.datapath.DatapathWorld.find.Goals as goal

pub returns-then-table-lt-TABLES-clause-found : goal.returns-then-table-lt-TABLES-clause-found
returns-then-table-lt-TABLES-clause-found g c =
    let es = entries_at c.args.self.now.tables c.args.table in
    answer_is es (winner_place (value c.args.key.now) (flows_of es)) c.lookup.result c.lookup.ensures.place c.lookup.ensures.there
