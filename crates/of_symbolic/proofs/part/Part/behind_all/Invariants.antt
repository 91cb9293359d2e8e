use Rattle.of_symbolic.specs.Branching.{IsPartBehindAll}
use Rattle.of_symbolic.proofs.part.Part.behind_all.Given as goal

abbrev pub invariant-loop-place : goal.invariant-loop-place
invariant-loop-place l = IsPartBehindAll l.entries l.place l.of l.fn.self l.part
