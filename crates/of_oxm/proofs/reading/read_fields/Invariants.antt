use Rattle.std.proofs.Common.{length}
use Rattle.of_oxm.proofs.Walk.{Going}
use Rattle.of_oxm.proofs.reading.read_fields.Given as goal

abbrev pub invariant-loop-rest : goal.invariant-loop-rest
invariant-loop-rest l = Going l.body l.fields.items l.rest

abbrev pub decreases-loop-rest : goal.decreases-loop-rest
decreases-loop-rest l = length l.rest
