use Rattle.std.proofs.Common.{drop}
use Rattle.of_regions.specs.Conditions.{AreConditions}
use Rattle.of_diff.proofs.ending.try_conditions.Given as goal

abbrev pub invariant-loop-condition : goal.invariant-loop-condition
invariant-loop-condition g l = AreConditions (drop l.condition-index l.conditions)
