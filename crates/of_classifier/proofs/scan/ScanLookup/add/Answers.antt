use Rattle.of_wire.proofs.NumberedLemmas.{distinct-push}
use Rattle.of_classifier.{specs.Rows.made_row, specs.Rows.row_number, proofs.Given.unused_of_vacant, proofs.Given.given-push}
use Rattle.of_classifier.proofs.scan.ScanLookup.add.Goals as goal

pub invariant_of-self-2 : goal.invariant_of-self-2
invariant_of-self-2 c =
    let rows = c.self.inside.rows.items in
    let number = c.in_ok-number.number in
    let row = made_row number c.args.priority c.args.fields in
    let unused = unused_of_vacant c.self.inside.numbers rows number c.self.invariant.1 c.in_ok-number.ensures.was_vacant in
    rw (c.in_ok-push.ensures.items, c.reserve.ensures.items) (distinct-push row_number rows row c.self.invariant.0 unused, given-push c.self.inside.numbers c.insert.new.self _ rows row c.self.invariant.1 c.in_ok-number.ensures.updates)

pub returns-clause-unused : goal.returns-clause-unused
returns-clause-unused c =
    rw (← c.self.view_is) (unused_of_vacant c.self.inside.numbers c.self.inside.rows.items c.in_ok-number.number c.self.invariant.1 c.in_ok-number.ensures.was_vacant)
