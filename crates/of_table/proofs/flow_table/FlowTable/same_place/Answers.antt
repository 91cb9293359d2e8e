use Rattle.std.proofs.Common.{drop, ◌≡◌, ◌∙◌, sym, Some, None}
use Rattle.of_classifier.specs.{Rows.same_of, Winner.winner_number}
use Rattle.of_table.{specs.Entries.rows_of, proofs.NumberLemmas.same_some, proofs.NumberLemmas.same_none}
use Rattle.of_table.proofs.flow_table.FlowTable.same_place.Goals as goal

pub returns-in-Some : goal.returns-in-Some
returns-in-Some g c =
    let es = drop c.self.inside.replaced c.self.inside.entries.items in
    let found : Some c.in-Some.number ≡ winner_number (same_of (rows_of es) c.args.fields.now c.args.priority) = rw c.self.invariant.0 at c.in-Some.ensures in
    c.place.ensures ∙ rw (← c.self.view_is) (same_some c.args.fields.now c.args.priority es c.in-Some.number (rw (← c.self.view_is) at c.known.ensures.distinct) found)

pub returns-in-None : goal.returns-in-None
returns-in-None g c =
    let es = drop c.self.inside.replaced c.self.inside.entries.items in
    let found : None ≡ winner_number (same_of (rows_of es) c.args.fields.now c.args.priority) = rw c.self.invariant.0 at c.in-None.ensures in
    rw (← c.self.view_is) (sym (same_none c.args.fields.now c.args.priority es (rw (← c.self.view_is) at c.known.ensures.distinct) found))
