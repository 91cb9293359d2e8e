-- ACTIONS AND INSTRUCTIONS IN WORDS (ovs-actions(7)).
use Rattle.std.specs.Prelude.{ℕ, ◌==◌, List, [], ◌∷◌, ◌++◌, codes, decimal, if◌then◌else◌}
use Rattle.std.specs.List.{flat_map}
use Rattle.of_wire.specs.declared.limits.TheConstants.{OFPP_CONTROLLER}
use Rattle.of_layers.specs.declared.field.Field.{Field}
use Rattle.of_actions.specs.declared.action.Action.TheVariants.{Output, PushVlan, PopVlan, Group, SetNwTtl, DecNwTtl, SetField}
use Rattle.of_actions.specs.declared.instruction.Instruction.TheVariants.{Apply, Clear, Write, Metadata, Goto}
use Rattle.of_actions.specs.{declared.action.Action.Action, declared.instruction.Instruction.Instruction}
use Rattle.of_values.specs.Numbers.{hexadecimal, port_in_words}
use Rattle.of_ovs_text.specs.Fields.{keyword_of, new_value_words}

abbrev pub to_port_in_words : ℕ → List ℕ
to_port_in_words port = codes "output:" ++ port_in_words port

-- only OUTPUT to CONTROLLER has a max_len
abbrev pub output_in_words : ℕ → ℕ → List ℕ
output_in_words port max_len = if port == OFPP_CONTROLLER then codes "CONTROLLER:" ++ decimal max_len else to_port_in_words port

-- `set_field:02:00:00:00:00:02->dl_dst`
unfoldable pub set_field_in_words : Field → ℕ → List ℕ
set_field_in_words f value = codes "set_field:" ++ new_value_words f value ++ codes "->" ++ keyword_of f

-- AN ACTION
unfoldable pub action_in_words : Action → List ℕ
action_in_words (Output port max_len) = output_in_words port max_len
action_in_words (PushVlan type) = codes "push_vlan:" ++ hexadecimal 4 type
action_in_words PopVlan = codes "pop_vlan"
action_in_words (Group group) = codes "group:" ++ decimal group
action_in_words (SetNwTtl ttl) = codes "mod_nw_ttl:" ++ decimal ttl
action_in_words DecNwTtl = codes "dec_ttl"
action_in_words (SetField f value) = set_field_in_words f value

abbrev pub further_action_in_words : Action → List ℕ
further_action_in_words a = 44 ∷ action_in_words a

-- A LIST OF ACTIONS
unfoldable pub actions_in_words_of : List Action → List ℕ
actions_in_words_of [] = codes "drop"
actions_in_words_of (a ∷ others) = action_in_words a ++ flat_map further_action_in_words others

unfoldable pub write_in_words : List Action → List ℕ
write_in_words actions = codes "write_actions(" ++ actions_in_words_of actions ++ codes ")"

unfoldable pub metadata_in_words : ℕ → ℕ → List ℕ
metadata_in_words value mask = codes "write_metadata:" ++ hexadecimal 1 value ++ codes "/" ++ hexadecimal 1 mask

-- AN INSTRUCTION
unfoldable pub instruction_in_words : Instruction → List ℕ
instruction_in_words (Apply actions) = actions_in_words_of actions
instruction_in_words Clear = codes "clear_actions"
instruction_in_words (Write actions) = write_in_words actions
instruction_in_words (Metadata value mask) = metadata_in_words value mask
instruction_in_words (Goto table) = codes "goto_table:" ++ decimal table

abbrev pub further_instruction_in_words : Instruction → List ℕ
further_instruction_in_words i = 44 ∷ instruction_in_words i

-- THE INSTRUCTIONS OF A FLOW, behind `actions=`
unfoldable pub instructions_in_words : List Instruction → List ℕ
instructions_in_words [] = codes "drop"
instructions_in_words (i ∷ others) = instruction_in_words i ++ flat_map further_instruction_in_words others
