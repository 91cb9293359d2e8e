use Rattle.std.proofs.Common.{drop, ◌≡◌, true}
use Rattle.of_wire.specs.Numbered.{is_distinct}
use Rattle.of_classifier.specs.Rows.{row_number}
use Rattle.of_table.{specs.Entries.rows_of, proofs.NumberLemmas.distinct-rows}
use Rattle.of_table.proofs.flow_table.FlowTable.known.Goals as goal

pub returns-clause-distinct : goal.returns-clause-distinct
returns-clause-distinct g c =
    let es = drop c.self.inside.replaced c.self.inside.entries.items in
    let distinct : is_distinct row_number (rows_of es) ≡ true = rw c.self.invariant.0 at c.known.ensures in
    rw (← c.self.view_is) (rw (distinct-rows es) at distinct)
