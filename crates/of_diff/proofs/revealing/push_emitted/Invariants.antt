use Rattle.of_regions.specs.Conditions.{AreConditions}
use Rattle.of_diff.proofs.revealing.push_emitted.Given as goal

abbrev pub invariant-loop-emission : goal.invariant-loop-emission
invariant-loop-emission l = AreConditions l.fn.conditions.items → AreConditions l.conditions.items
