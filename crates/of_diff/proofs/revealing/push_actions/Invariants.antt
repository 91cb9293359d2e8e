use Rattle.of_regions.specs.Conditions.{AreConditions}
use Rattle.of_diff.proofs.revealing.push_actions.Given as goal

abbrev pub invariant-loop-action : goal.invariant-loop-action
invariant-loop-action l = AreConditions l.fn.conditions.items → AreConditions l.conditions.items
