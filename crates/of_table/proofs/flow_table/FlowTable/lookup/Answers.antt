use Rattle.std.proofs.Common.{drop, ◌≡◌, true}
use Rattle.of_headers.specs.FieldMap.{value}
use Rattle.of_wire.specs.Numbered.{is_distinct}
use Rattle.of_classifier.specs.Rows.{row_number}
use Rattle.of_table.{specs.Entries.entry_number, specs.Entries.rows_of, proofs.NumberLemmas.distinct-rows, proofs.WinnerLemmas.answer_place, proofs.WinnerLemmas.answer_there}
use Rattle.of_table.proofs.flow_table.FlowTable.lookup.Goals as goal

pub returns-clause-place : goal.returns-clause-place
returns-clause-place g c =
    let es = drop c.self.inside.replaced c.self.inside.entries.items in
    let rows_distinct : is_distinct row_number (rows_of es) ≡ true = rw c.self.invariant.0 at c.known.ensures in
    let distinct : is_distinct entry_number es ≡ true = rw (distinct-rows es) at rows_distinct in
    rw (← c.self.view_is) (answer_place (value c.args.key.now) es c.winner.result distinct (rw c.self.invariant.0 at c.winner.ensures.answer))

pub returns-clause-there : goal.returns-clause-there
returns-clause-there g c =
    let es = drop c.self.inside.replaced c.self.inside.entries.items in
    rw (← c.self.view_is) (answer_there (value c.args.key.now) es c.winner.result (rw c.self.invariant.0 at c.winner.ensures.answer))
