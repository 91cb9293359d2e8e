use Rattle.std.proofs.Common.{length}
use Rattle.of_values.proofs.lines.+put.Given as goal

abbrev pub decreases-put : goal.decreases-put
decreases-put l = length l.line.now
