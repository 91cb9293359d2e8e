use Rattle.std.proofs.Common.{◌≡◌, length, [], ◌∙◌, arith}
use Rattle.std.proofs.lemmas.List.{length-map}
use Rattle.of_table.specs.Entries.{table_of}
use Rattle.of_statistics.proofs.Walks.{bytes_of_more}
use Rattle.of_history.specs.Selected.{table_selected}
use Rattle.of_history.proofs.entries.EntriesView.listed.Goals as goal

pub loop-table-preserved : goal.loop-table-preserved
loop-table-preserved g c =
    let ts = c.args.switch.now.core.forwarding.tables.tables in
    let sixteen : length ts ≡ 16 = rw c.datapath.ensures (length-map c.datapath.result.now.tables.tables table_of ∙ c.known.ensures.sixteen) in
    bytes_of_more (table_selected c.args.self.now.filter c.args.self.now.fields c.args.switch.now.core.forwarding c.args.moment) c.loop-table.table ts [] c.loop-table.out.items c.push_table.new.out.items (omega (arith, sixteen)) c.loop-table.invariant c.in_ok-push_table.ensures
