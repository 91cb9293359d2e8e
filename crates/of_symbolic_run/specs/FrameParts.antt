-- That lists are of conditions has one proof at most.
use Rattle.std.{specs.Prelude.List, specs.Global.Vec, specs.List.AllByRecursion-prop, proofs.Math.Nat.ℕ_set, proofs.Math.Path.fun_ext}
use Rattle.of_oxm.specs.declared.match_field.MatchField.{MatchField}
use Rattle.of_regions.specs.Conditions.{IsCondition}
use Rattle.of_symbolic.specs.Parts.{AreListsOfConditions}

condition_prop : (e : MatchField) → IsProp (IsCondition e)
condition_prop e x y = λ i. record { within = ℕ_set _ _ x.within y.within i; value = ℕ_set _ _ x.value y.value i }

pub conditions_prop : (lacks : List (Vec MatchField)) → IsProp (AreListsOfConditions lacks)
conditions_prop lacks x y = fun_ext (λ m. fun_ext (λ c. AllByRecursion-prop IsCondition condition_prop m.items (x m c) (y m c)))
