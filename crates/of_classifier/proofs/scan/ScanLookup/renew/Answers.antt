use Rattle.of_wire.proofs.NumberedLemmas.{distinct-moved_to_end}
use Rattle.of_classifier.{specs.Rows.row_number, proofs.Given.given-moved_to_end}
use Rattle.of_classifier.proofs.scan.ScanLookup.renew.Goals as goal

pub invariant_of-self : goal.invariant_of-self
invariant_of-self c =
    let rows = c.self.inside.rows.items in
    rw c.renew_row.ensures (distinct-moved_to_end row_number c.args.number rows c.self.invariant.0, given-moved_to_end c.self.inside.numbers c.args.number rows c.self.invariant.1)
