-- Where a set keeps its actions. No public clause cites this module.
use Rattle.std.specs.Prelude.{List, [], Option, Some, None}
use Rattle.of_actions.specs.declared.action.Action.{Action}
use Rattle.of_action_set.specs.{declared.action_set.Stored.Stored, declared.action_set.Stored.TheVariants.Few, declared.action_set.Stored.TheVariants.All}

abbrev pub items_in : Stored → List Action
items_in (Few v) = v.items
items_in (All v) = v.items

-- the actions, of which there are none until the first is written
abbrev pub stored : Option Stored → List Action
stored None = []
stored (Some s) = items_in s
