-- ACTIONS AS ROWS OF A TABLE (OpenFlow 1.3.5, 7.2.5), which is a constant of the code: the row of each action, and what the action says beside its type and its length.
use Rattle.std.specs.Prelude.{ℕ, ◌==◌, Option, Some, None, find, if◌then◌else◌}
use Rattle.of_actions.specs.declared.rows.TheConstants.{ACTIONS, OUTPUT, PUSH_VLAN, POP_VLAN, GROUP, SET_NW_TTL, DEC_NW_TTL, SET_FIELD}
use Rattle.of_actions.specs.declared.action.Action.TheVariants.{Output, PushVlan, PopVlan, Group, SetNwTtl, DecNwTtl, SetField}
use Rattle.of_actions.specs.declared.argument.Argument.TheVariants.{Nothing, Byte, Tag, Word, Port, Field}
use Rattle.of_actions.specs.{declared.rows.ActionRow.ActionRow, declared.action.Action.Action, declared.argument.Argument.Argument}

-- the row of a type
abbrev pub action_row : ℕ → Option ActionRow
action_row type = find (λ r. r.kind == type) ACTIONS

-- the row of an action, and what it says
abbrev pub said : Action → ActionRow × Argument
said (Output port max_len) = (OUTPUT, Port port max_len)
said (PushVlan type) = (PUSH_VLAN, Tag type)
said PopVlan = (POP_VLAN, Nothing)
said (Group group) = (GROUP, Word group)
said (SetNwTtl ttl) = (SET_NW_TTL, Byte ttl)
said DecNwTtl = (DEC_NW_TTL, Nothing)
said (SetField field value) = (SET_FIELD, Field field value)

-- the action of a type that says this
abbrev pub action_saying : ℕ → Argument → Option Action
action_saying type Nothing = if type == POP_VLAN.kind then Some PopVlan else if type == DEC_NW_TTL.kind then Some DecNwTtl else None
action_saying type (Byte n) = if type == SET_NW_TTL.kind then Some (SetNwTtl n) else None
action_saying type (Tag n) = if type == PUSH_VLAN.kind then Some (PushVlan n) else None
action_saying type (Word n) = if type == GROUP.kind then Some (Group n) else None
action_saying type (Port port max_len) = if type == OUTPUT.kind then Some (Output port max_len) else None
action_saying type (Field field value) = if type == SET_FIELD.kind then Some (SetField field value) else None
