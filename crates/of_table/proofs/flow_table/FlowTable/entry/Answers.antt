use Rattle.std.proofs.Common.{sym}
use Rattle.of_table.proofs.NumberLemmas.{number_at, number_nowhere}
use Rattle.of_table.proofs.flow_table.FlowTable.entry.Goals as goal

pub returns-in-Some : goal.returns-in-Some
returns-in-Some g c = sym (number_at c.args.number c.args.self.now.entries c.in-Some.place c.index-entries-place.result (sym c.in-Some.ensures) (rw c.entries.ensures at c.index-entries-place.is))

pub returns-in-None : goal.returns-in-None
returns-in-None g c = sym (number_nowhere c.args.number c.args.self.now.entries (sym c.in-None.ensures))
