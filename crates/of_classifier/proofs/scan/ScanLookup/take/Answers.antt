use Rattle.of_wire.proofs.NumberedLemmas.{distinct-without}
use Rattle.of_classifier.{specs.Rows.row_number, proofs.Given.given-without}
use Rattle.of_classifier.proofs.scan.ScanLookup.take.Goals as goal

pub invariant_of-self : goal.invariant_of-self
invariant_of-self c =
    let rows = c.self.inside.rows.items in
    rw c.remove_row.ensures (distinct-without row_number c.args.number rows c.self.invariant.0, given-without c.self.inside.numbers c.try_remove.new.self c.args.number _ rows c.self.invariant.1 c.try_remove.ensures.updates)
