use Rattle.std.{specs.Prelude.slice_get, proofs.Common.◌∙◌, proofs.Common.ap, proofs.Common.List}
use Rattle.of_table.specs.declared.entry.Entry.{Entry}
use Rattle.of_datapath.proofs.Looking.{entry_without}
use Rattle.of_datapath.proofs.datapath.Datapath.entry.Goals as goal

pub returns : goal.returns
returns g c =
    entry_without c.args.self.now.tables c.args.table c.args.place c.at.result
    (c.at.ensures ∙ ap (λ (xs : List Entry). slice_get xs c.args.place) c.entries.ensures)
