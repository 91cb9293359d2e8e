use Rattle.std.proofs.Common.{arith}
use Rattle.of_headers.specs.FieldMap.{value}
use Rattle.of_classifier.proofs.{Best.winner_more, scan.best_of.Goals.then-matches, scan.best_of.Goals.else-matches}
use Rattle.of_classifier.proofs.scan.best_of.Goals as goal

pub loop-row-preserved : goal.loop-row-preserved
loop-row-preserved c =
    let more = winner_more c.args.rows.now (value c.args.key.now) c.loop-row.row-index c.row-item.result c.loop-row-test.true c.row-item.is in
    elim c.if-matches.branch [ then-matches w ↦ grind (arith, more) | else-matches w ↦ grind (arith, more) ]
