use Rattle.std.proofs.Common.{◌∙◌, sym, ap, length}
use Rattle.of_table.proofs.NumberLemmas.{number_past, number_some}
use Rattle.of_table.proofs.flow_table.FlowTable.place_or_end.Goals as goal

pub returns-in-Some : goal.returns-in-Some
returns-in-Some g c = (number_some c.args.number c.args.self.now.entries c.in-Some.place (sym c.in-Some.ensures)).0

pub returns-in-None : goal.returns-in-None
returns-in-None g c = ap length c.entries.ensures ∙ sym (number_past c.args.number c.args.self.now.entries (sym c.in-None.ensures))
