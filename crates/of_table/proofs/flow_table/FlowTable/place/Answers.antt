use Rattle.std.proofs.Common.{sym}
use Rattle.of_table.proofs.NumberLemmas.{stands}
use Rattle.of_table.proofs.flow_table.FlowTable.place.Goals as goal

pub returns-then-entries-place : goal.returns-then-entries-place
returns-then-entries-place g c =
    sym (rw c.entries-entries.ensures at (stands c.entries-entries.result.now _ c.args.number c.index-entries-place.result (rw c.entries-entries.ensures c.known.ensures.distinct) c.if-place-entries.true c.if-entries-place.true))
