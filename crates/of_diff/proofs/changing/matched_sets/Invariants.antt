use Rattle.of_diff.proofs.ChangingLemmas.{AreSetsSoFar}
use Rattle.of_diff.proofs.changing.matched_sets.Given as goal

abbrev pub invariant-loop-fields : goal.invariant-loop-fields
invariant-loop-fields l = AreSetsSoFar l.fn.frames l.rest l.asked l.fields-index l.sets.items
