-- ACTIONS WITHOUT EFFECT (OpenFlow 1.3.5, 4.5, 5.9, 5.10 and 5.12).
use Rattle.std.specs.Prelude.{ℕ, ◌==◌, Bool, true, false, not, ◌&&◌, ◌||◌, List, take, Option, Some, None, is_none, if◌then◌else◌}
use Rattle.std.specs.List.{list_any, suffix_len}
use Rattle.of_layers.specs.{declared.field.Field.Field, declared.field.Field.TheVariants.InPort}
use Rattle.of_oxm.specs.declared.match_field.MatchField.{MatchField}
use Rattle.of_actions.specs.{declared.action.Action.Action, declared.action.Action.TheVariants.Output, declared.action.Action.TheVariants.Group, declared.action.Action.TheVariants.DecNwTtl}
use Rattle.of_actions.specs.declared.instruction.Instruction.{Instruction}
use Rattle.of_actions.specs.declared.instruction.Instruction.TheVariants.{Clear, Write, Goto}
use Rattle.of_actions.specs.PortNumbers.{is_number}
use Rattle.of_text.specs.{Flows.Flow, Refusals.some_action}

-- ---- OUTPUT to the ingress port: nothing leaves there, since only IN_PORT sends a packet back (4.5 and 7.2.1)

abbrev pub is_in_port : Field → Bool
is_in_port InPort = true
is_in_port other = false

-- the port of the switch that a field of a match requires as ingress port
abbrev pub required_port : MatchField → Option ℕ
required_port e = if is_in_port e.field && (is_none e.mask && is_number e.value) then Some e.value else None

abbrev pub is_output_to_port : ℕ → Action → Bool
is_output_to_port port (Output to max_len) = to == port
is_output_to_port port other = false

-- some action sends to the port
abbrev pub some_output_to : ℕ → List Instruction → Bool
some_output_to port instructions = list_any (some_action (is_output_to_port port)) instructions

-- ---- actions that nobody sees

-- it sends the packet as it is then: OUTPUT and GROUP, and DEC_NW_TTL, which sends a packet of an invalid TTL to the controllers
abbrev pub may_send_packet : Action → Bool
may_send_packet (Output port max_len) = true
may_send_packet (Group group) = true
may_send_packet DecNwTtl = true
may_send_packet other = false

-- how many actions follow the last that may send
abbrev pub silent : List Action → ℕ
silent actions = suffix_len (λ a. not (may_send_packet a)) actions

-- it puts an action into the action set that may send
abbrev pub writes_sending : Instruction → Bool
writes_sending (Write actions) = list_any may_send_packet actions
writes_sending other = false

abbrev pub some_writes_sending : List Flow → Bool
some_writes_sending flows = list_any (λ f. list_any writes_sending f.instructions) flows

abbrev pub is_goto : Instruction → Bool
is_goto (Goto table) = true
is_goto other = false

abbrev pub is_clear : Instruction → Bool
is_clear Clear = true
is_clear other = false

-- AFTER THE APPLY_ACTIONS OF AN ENTRY OF A TABLE the packet may go on or be sent: by GOTO_TABLE, by what the entry writes into the action set,
-- or by what entries of earlier tables wrote and it does not clear
abbrev pub is_used_later : List (List Flow) → ℕ → List Instruction → Bool
is_used_later tables table instructions =
    list_any is_goto instructions
    || list_any writes_sending instructions
    || (not (list_any is_clear instructions) && list_any some_writes_sending (take table tables))
