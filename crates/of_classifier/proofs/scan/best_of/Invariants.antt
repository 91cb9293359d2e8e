use Rattle.std.proofs.Common.{◌≡◌, take}
use Rattle.of_headers.specs.FieldMap.{value}
use Rattle.of_classifier.specs.{Winner.winner_of, Scanning.pair_of}
use Rattle.of_classifier.proofs.scan.best_of.Given as goal

-- the best of those before
abbrev pub invariant-loop-row : goal.invariant-loop-row
invariant-loop-row l = l.best ≡ pair_of (winner_of (take l.row-index l.rows) (value l.key))
