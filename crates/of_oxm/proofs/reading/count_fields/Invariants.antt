use Rattle.std.proofs.Common.{length}
use Rattle.of_oxm.proofs.reading.count_fields.Given as goal

abbrev pub decreases-loop-rest : goal.decreases-loop-rest
decreases-loop-rest l = length l.rest
