use Rattle.std.proofs.Common.{ℕ, length}
use Rattle.of_machine.specs.TheWorld.{TheWorld}
use Rattle.of_alike.specs.declared.alike.Compared.{Compared}
use Rattle.of_diff.{specs.Reasons.ArePairsAfter, specs.SoFar.IsSoFar, proofs.FindingLemmas.AreLeaving}
use Rattle.of_diff.proofs.differing.give_up.Given as goal

abbrev pub invariant-loop-pair : goal.invariant-loop-pair
invariant-loop-pair l = (c : Compared) (w v : TheWorld) (steps : ℕ) → ArePairsAfter c w v steps steps l.fn.pairs.items → IsSoFar c w v steps l.fn.pairs.items l.fn.so_far → AreLeaving c w v steps l.pairs.items l.so_far

abbrev pub decreases-loop-pair : goal.decreases-loop-pair
decreases-loop-pair l = length l.pairs.items
