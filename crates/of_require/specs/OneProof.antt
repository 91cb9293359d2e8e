-- That a list is one of conditions has one proof at most.
use Rattle.std.{specs.Prelude.List, specs.List.AllByRecursion-prop, proofs.Math.Nat.ℕ_set}
use Rattle.of_oxm.specs.declared.match_field.MatchField.{MatchField}
use Rattle.of_regions.specs.Conditions.{AreConditions, IsCondition}

condition_prop : (e : MatchField) → IsProp (IsCondition e)
condition_prop e x y = λ i. record { within = ℕ_set _ _ x.within y.within i; value = ℕ_set _ _ x.value y.value i }

pub are_conditions_prop : (fields : List MatchField) → IsProp (AreConditions fields)
are_conditions_prop fields x y = AllByRecursion-prop IsCondition condition_prop fields x y
