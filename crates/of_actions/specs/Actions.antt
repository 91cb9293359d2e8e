-- Actions on the wire (OpenFlow 1.3.5, 7.2.5).
use Rattle.std.specs.Prelude.{ℕ, ◌%◌, ◌==◌, nat_lt, Bool, true, not, ◌||◌, List, [], ◌∷◌, length, Option, Some, None, Result, if◌then◌else◌}
use Rattle.std.specs.Option.{option_map, option_map_or, option_and_then}
use Rattle.of_wire.specs.declared.codes.TheConstants.{OFPBAC_BAD_ARGUMENT, OFPBAC_BAD_EXPERIMENTER, OFPBAC_BAD_LEN, OFPBAC_BAD_OUT_PORT, OFPBAC_BAD_TYPE, OFPBAC_TOO_MANY}
use Rattle.of_wire.specs.{declared.code.Code.Code, Items.Items, Items.AreItems, Items.items_from}
use Rattle.of_layers.specs.Reading.{is_tag_type}
use Rattle.of_formats.specs.Structs.{numbers, size}
use Rattle.of_formats.specs.Tables as tables
use Rattle.of_actions.specs.declared.argument.Argument.TheVariants.{Nothing, Byte, Tag, Word, Port, Field}
use Rattle.of_actions.specs.{Beginnings.type_at, Beginnings.len_at, Beginnings.argument_at, PortNumbers.is_port, SetField.set_field_at, SetField.set_value_at, SetField.set_refusals}
use Rattle.of_actions.specs.{declared.action.Action.Action, declared.argument.Argument.Argument, declared.rows.Form.Form, Rows.action_row, Rows.action_saying}
use Rattle.of_actions.specs.declared.rows.Form.TheVariants as forms

-- an action of another size: OFPBAC_BAD_LEN
abbrev pub wrong_size : ℕ → List ℕ → Bool × Code
wrong_size n rest = (not (len_at rest == n), OFPBAC_BAD_LEN)

-- the refusals of a form, in order: of its size, and then OFPBAC_BAD_OUT_PORT, OFPBAC_BAD_ARGUMENT of a tag, or those of a set-field
abbrev pub form_refusals : Form → Bool → List ℕ → List (Bool × Code)
form_refusals forms.Nothing packet_out rest = wrong_size (size tables.action_header) rest ∷ []
form_refusals forms.Byte packet_out rest = wrong_size (size tables.action_nw_ttl) rest ∷ []
form_refusals forms.Tag packet_out rest = wrong_size (size tables.action_push) rest ∷ (not (is_tag_type (argument_at tables.action_push rest)), OFPBAC_BAD_ARGUMENT) ∷ []
form_refusals forms.Word packet_out rest = wrong_size (size tables.action_group) rest ∷ []
form_refusals forms.Port packet_out rest = wrong_size (size tables.action_output) rest ∷ (not (is_port packet_out (argument_at tables.action_output rest)), OFPBAC_BAD_OUT_PORT) ∷ []
form_refusals forms.Field packet_out rest = set_refusals rest

-- a type that no row has
abbrev pub unknown_type : ℕ → Code
unknown_type type = if type == 0xffff then OFPBAC_BAD_EXPERIMENTER else OFPBAC_BAD_TYPE

-- The refusals of an action by its type, in order (7.4.4): those of the form of its row.
unfoldable pub type_refusals : Bool → List ℕ → List (Bool × Code)
type_refusals packet_out rest = option_map_or (λ r. form_refusals r.form packet_out rest) (action_row (type_at rest)) ((true, unknown_type (type_at rest)) ∷ [])

-- The refusals of the action that begins `rest`, in order, after the actions `seen`: OFPBAC_TOO_MANY, OFPBAC_BAD_LEN, and those of its type.
unfoldable pub wire_action_refusals : Bool → List Action → List ℕ → List (Bool × Code)
wire_action_refusals packet_out seen rest =
    (nat_lt 63 (length seen), OFPBAC_TOO_MANY)
    ∷ (nat_lt (length rest) 4, OFPBAC_BAD_LEN)
    ∷ (nat_lt (len_at rest) 8 || not (len_at rest % 8 == 0) || nat_lt (length rest) (len_at rest), OFPBAC_BAD_LEN)
    ∷ type_refusals packet_out rest

-- what the numbers of the struct say
abbrev pub port_argument : List ℕ → Option Argument
port_argument (type ∷ len ∷ port ∷ max_len ∷ []) = Some (Port port max_len)
port_argument other = None

-- what an action of a form says, where it is not refused
abbrev pub argument_of : Form → List ℕ → Option Argument
argument_of forms.Nothing rest = Some Nothing
argument_of forms.Byte rest = Some (Byte (argument_at tables.action_nw_ttl rest))
argument_of forms.Tag rest = Some (Tag (argument_at tables.action_push rest))
argument_of forms.Word rest = Some (Word (argument_at tables.action_group rest))
argument_of forms.Port rest = port_argument (numbers tables.action_output 0 rest)
argument_of forms.Field rest = option_map (λ f. Field f (set_value_at f rest)) (set_field_at rest)

-- the action, where it is not refused
unfoldable pub action_at : List ℕ → Option Action
action_at rest = option_and_then (action_saying (type_at rest)) (option_and_then (λ r. argument_of r.form rest) (action_row (type_at rest)))

abbrev pub actions_of : Bool → Items Action
actions_of packet_out = record { refusals = wire_action_refusals packet_out; value_at = action_at; size_at = len_at }

-- after the actions `seen`, bytes are these actions, and then they end or have a fault
abbrev pub AreActions : Bool → List Action → List ℕ → List Action → Option Code → Type 0
AreActions packet_out = AreItems (actions_of packet_out)

-- the same as a function: the actions that bytes are, or the code of the first refusal
unfoldable pub actions_said : Bool → List ℕ → Result (List Action) Code
actions_said packet_out bytes = items_from (actions_of packet_out) (length bytes) [] bytes
