use Rattle.std.proofs.Common.{◌≡◌, ℕ, Bool, true, false, cond, eqb, List, refl, not, ◌&&◌}
use Rattle.std.specs.{Prelude.Option, Prelude.None, List.list_any}
use Rattle.of_actions.specs.{declared.action.Action.Action, Rising.is_ascending}
use Rattle.of_action_set.specs.Sets.{rank, is_group, is_output, in_order, held_action}
use Rattle.of_action_set.proofs.{Ranked.rising-filter, Kinded.few, Kinded.find_not_output}
use Rattle.of_action_set.proofs.laws.order_is_by_rank.Goals as goal

rising_by : (set : List Action) (b : Bool) → list_any is_group set ≡ b → is_ascending rank set ≡ true → is_ascending rank (in_order set) ≡ true
rising_by set true is r = rw is (rising-filter rank (λ a. not (is_output a)) set r)
rising_by set false is r = rw is r

pub returns-clause-rising : goal.returns-clause-rising
returns-clause-rising c = λ set r. rising_by set (list_any is_group set) refl r

none_in : (b : Bool) (o : Option Action) → o ≡ cond {A = Option Action} (b && false) None o
none_in true o = refl
none_in false o = refl

all_in : (b : Bool) (o : Option Action) → cond {A = Option Action} b None o ≡ cond {A = Option Action} (b && true) None o
all_in true o = refl
all_in false o = refl

members_by : (set : List Action) (kind : ℕ) (b : Bool) → list_any is_group set ≡ b → held_action kind (in_order set) ≡ cond (eqb kind 41 && list_any is_group set) None (held_action kind set)
members_by set kind true is = rw (is, find_not_output kind set) (all_in (eqb kind 41) (held_action kind set))
members_by set kind false is = rw is (none_in (eqb kind 41) (held_action kind set))

pub returns-clause-members : goal.returns-clause-members
returns-clause-members c = λ set kind. members_by set kind (list_any is_group set) refl

pub returns-clause-few : goal.returns-clause-few
returns-clause-few c = λ set r s. few set r s
