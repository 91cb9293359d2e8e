use Rattle.std.proofs.Common.{ℕ, List, length}
use Rattle.of_oxm.specs.declared.match_field.MatchField.{MatchField}
use Rattle.of_machine.specs.TheWorld.{TheWorld}
use Rattle.of_paths.{specs.declared.path.Merging.Merging, specs.Reasons.AreLeftAfter, specs.SoFar.ArePathsSoFar, proofs.SoFarLemmas.AreLeaving}
use Rattle.of_paths.proofs.dividing.leave_undecided.Given as goal

abbrev pub invariant-loop-case : goal.invariant-loop-case
invariant-loop-case l = (m : Merging) (w : TheWorld) (within : List MatchField) (steps : ℕ) → AreLeftAfter w within steps l.fn.cases.items → ArePathsSoFar m w within steps l.fn.cases.items l.fn.found → AreLeaving m w within steps l.cases.items l.found

abbrev pub decreases-loop-case : goal.decreases-loop-case
decreases-loop-case l = length l.cases.items
