use Rattle.std.proofs.Common.{List, ap}
use Rattle.of_headers.specs.FieldMap.{value}
use Rattle.of_wire.specs.Highest.{oldest_highest}
use Rattle.of_classifier.specs.{declared.Row.Row, Rows.row_priority}
use Rattle.of_classifier.proofs.scan.ScanLookup.region.Goals as goal

pub returns-clause-alike : goal.returns-clause-alike
returns-clause-alike c = λ map a.
    let alike = rw (c.deref-2.ensures.value, c.self.view_is) at c.mask_of_all.ensures.alike in
    ap (λ (rows : List Row). oldest_highest row_priority rows) (alike map (value c.args.key.now) a)
