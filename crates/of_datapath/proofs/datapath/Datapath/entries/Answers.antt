use Rattle.std.proofs.Common.{List, sym, ap, ◌∙◌}
use Rattle.of_table.specs.{declared.entry.Entry.Entry, Table.Table, Entries.flows_of}
use Rattle.of_datapath.proofs.{Looking.few_entries, Worlds.table_is}
use Rattle.of_datapath.proofs.datapath.Datapath.entries.Goals as goal

pub returns-clause-flows : goal.returns-clause-flows
returns-clause-flows g c =
    ap (λ (xs : List Entry). flows_of xs) c.entries.ensures ∙ sym (ap (λ (t : Table). t.flows) (table_is c.args.self.now.tables c.args.table))

pub returns-clause-few : goal.returns-clause-few
returns-clause-few g c = rw c.entries.ensures (few_entries c.args.self.now.tables c.args.table c.known.ensures.sound)
