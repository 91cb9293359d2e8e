-- Action sets stay action sets.
use Rattle.std.proofs.Common.{◌≤◌, Bool, true, false, cond, not, List, [], ◌∷◌, refl, length}
use Rattle.std.specs.{Prelude.IsTrue, Prelude.filter, List.list_all, List.list_any}
use Rattle.of_layers.proofs.TestLemmas.{and_true}
use Rattle.of_actions.specs.{declared.action.Action.Action, Supported.is_supported}
use Rattle.of_action_set.specs.Sets.{is_group, is_output, rank, with_action, with_actions, in_order}
use Rattle.of_action_set.proofs.{Ranked.all-filter, Ranked.rising-filter, Ranked.rising_put, Ranked.all_put, Kinded.few}
use Rattle.of_machine.specs.Weights.{IsSet}

pub empty_set : IsSet []
empty_set = record { rising = refl; served = refl }

-- actions that are written
pub written_set : (s l : List Action) → IsSet s → IsTrue (list_all (is_supported false) l) → IsSet (with_actions s l)
written_set s [] h all = h
written_set s (a ∷ l) h all =
    let both = and_true (is_supported false a) (list_all (is_supported false) l) all in
    written_set (with_action s a) l (record { rising = rising_put rank a s h.rising; served = all_put rank (is_supported false) a s both.0 h.served }) both.1

-- what a set runs
pub run_set : (s : List Action) → IsSet s → IsSet (in_order s)
run_set s h = by_test (list_any is_group s)
  where
    by_test : (b : Bool) → IsSet (cond b (filter (λ a. not (is_output a)) s) s)
    by_test true = record { rising = rising-filter rank (λ a. not (is_output a)) s h.rising; served = all-filter (is_supported false) (λ a. not (is_output a)) s h.served }
    by_test false = h

pub set_few : (s : List Action) → IsSet s → length s ≤ 30
set_few s h = few s h.rising h.served
