-- Whether a flow's set-fields have their prerequisites in its match (OpenFlow 1.3.5, 5.12 and 7.2.3.6).
use Rattle.std.specs.Prelude.{nat_lt, Bool, true, ◌||◌, List}
use Rattle.std.specs.List.{list_all}
use Rattle.of_layers.specs.Fields.{number_of, prerequisite_of}
use Rattle.of_oxm.specs.{declared.match_field.MatchField.MatchField, Prerequisites.is_met}
use Rattle.of_actions.specs.{declared.action.Action.Action, declared.action.Action.TheVariants.SetField, declared.instruction.Instruction.Instruction}
use Rattle.of_actions.specs.declared.instruction.Instruction.TheVariants.{Apply, Write}

-- a set-field's prerequisites are in the match; fields below 8, those of Ethernet and VLAN, are not checked
abbrev pub is_prerequisite_met : List MatchField → Action → Bool
is_prerequisite_met m (SetField field value) = nat_lt (number_of field) 8 || is_met m (prerequisite_of field)
is_prerequisite_met m other = true

abbrev pub are_needs_met : List MatchField → List Action → Bool
are_needs_met m actions = list_all (is_prerequisite_met m) actions

abbrev pub has_prerequisites_met : List MatchField → Instruction → Bool
has_prerequisites_met m (Apply actions) = are_needs_met m actions
has_prerequisites_met m (Write actions) = are_needs_met m actions
has_prerequisites_met m other = true

-- the flow check: each of the instructions goes with the match
abbrev pub all_go_with : List MatchField → List Instruction → Bool
all_go_with m instructions = list_all (has_prerequisites_met m) instructions
