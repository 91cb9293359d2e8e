use Rattle.std.proofs.Common.{take}
use Rattle.of_symbolic.proofs.SoFar.{SoFar}
use Rattle.of_symbolic.proofs.pulling.pull.Given as goal

abbrev pub invariant-loop-e : goal.invariant-loop-e
invariant-loop-e l = SoFar l.overlay l.metadata l.tagged (take l.e-index l.m) l.open l.fields.items
