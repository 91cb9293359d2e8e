-- Action sets (OpenFlow 1.3.5, 5.10): one action of a kind, and one set-field action of a field.
use Rattle.std.specs.Prelude.{ℕ, ◌+◌, ◌==◌, nat_lt, Bool, true, false, not, List, [], ◌∷◌, ◌++◌, Option, filter, find, if◌then◌else◌}
use Rattle.std.specs.List.{list_any}
use Rattle.of_layers.specs.Fields.{number_of}
use Rattle.of_actions.specs.{declared.action.Action.Action, declared.action.Action.TheVariants.Output, declared.action.Action.TheVariants.Group, declared.argument.Argument.Argument}
use Rattle.of_actions.specs.{declared.argument.Argument.TheVariants.Field, Rows.said}

-- a SET_FIELD of another field is of another kind
abbrev pub field_place : Argument → ℕ
field_place (Field field value) = number_of field
field_place other = 0

-- The kind of an action, as its rank in execution order: that of its row in ACTIONS, and for SET_FIELD by ascending field. The standard says no more than that pops come before pushes, these before changes of the TTL, and sets, group and output last.
abbrev pub rank : Action → ℕ
rank a = (said a).0.rank + field_place (said a).1

-- a set is the list of its actions by ascending rank; this is its action of a kind
abbrev pub held_action : ℕ → List Action → Option Action
held_action kind set = find (λ a. rank a == kind) set

-- an action takes the place of the one of its kind
abbrev pub with_action : List Action → Action → List Action
with_action set a = filter (λ b. nat_lt (rank b) (rank a)) set ++ a ∷ filter (λ b. nat_lt (rank a) (rank b)) set

-- actions are written in the order of their list
abbrev pub with_actions : List Action → List Action → List Action
with_actions set [] = set
with_actions set (a ∷ others) = with_actions (with_action set a) others

abbrev pub is_group : Action → Bool
is_group (Group group) = true
is_group other = false

abbrev pub is_output : Action → Bool
is_output (Output port max_len) = true
is_output other = false

-- what a set runs: beside a GROUP, OUTPUT is left out
abbrev pub in_order : List Action → List Action
in_order set = if list_any is_group set then filter (λ a. not (is_output a)) set else set
