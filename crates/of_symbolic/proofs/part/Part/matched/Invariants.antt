use Rattle.of_symbolic.proofs.PartLemmas.{IsMatchedSoFar}
use Rattle.of_symbolic.proofs.part.Part.matched.Given as goal

abbrev pub invariant-loop-index : goal.invariant-loop-index
invariant-loop-index l = IsMatchedSoFar l.fields l.self l.index l.part
