-- What the bytes of a message say (OpenFlow 1.3.5, 7.1 and 7.3), or the first refusal in the written order (7.4.4).
use Rattle.std.specs.Prelude.{ℕ, ◌+◌, ◌==◌, nat_lt, nat_le, Bool, true, false, not, ◌&&◌, ◌||◌, List, [], ◌∷◌, ◌++◌, take, drop, slice_get, Option, Some, None, is_none, Result, Ok, Err, if◌then◌else◌}
use Rattle.of_wire.specs.declared.limits.TheConstants.{FLOW_MOD_FLAGS, OFPTT_ALL, OFP_NO_BUFFER, TABLES, OFPP_CONTROLLER}
use Rattle.of_wire.specs.declared.codes.TheConstants.{OFPBAC_MATCH_INCONSISTENT, OFPBRC_BAD_LEN, OFPBRC_BAD_PACKET, OFPBRC_BAD_PORT, OFPBRC_BAD_TYPE, OFPFMFC_BAD_COMMAND, OFPFMFC_BAD_FLAGS, OFPFMFC_BAD_TABLE_ID}
use Rattle.of_wire.specs.{declared.code.Code.Code, Refusals.first_of}
use Rattle.of_oxm.specs.MatchReading.{match_of}
use Rattle.of_actions.specs.{declared.instruction.Instruction.Instruction, Actions.actions_said, InstructionReading.instructions_in_bytes, FlowCheck.all_go_with, PortNumbers.is_number}
use Rattle.of_headers.specs.Faults.{frame_fault}
use Rattle.of_messages.specs.declared.message.Message.TheVariants.{Hello, Error, EchoRequest, EchoReply, FeaturesRequest, GetConfigRequest, SetConfig, PacketOut as IsPacketOut, FlowMod as IsFlowMod, GroupMod as IsGroupMod, PortMod as IsPortMod, TableMod as IsTableMod, Multipart, BarrierRequest, RoleRequest as IsRoleRequest, GetAsyncRequest, SetAsync}
use Rattle.of_messages.specs.{declared.message.Message.Message, declared.role.Role.Role, Heads.head_refusals, Heads.role_refusals, AsyncConfigs.async_masks_of}
use Rattle.of_messages.specs.{Configs.set_config_of, Configs.table_mod_of, GroupMods.group_mod_of, Multiparts.multipart_of, PortMods.port_mod_of, Roles.role_request_of}
use Rattle.of_messages.specs.{declared.message.PacketOut.PacketOut, declared.message.PacketData.PacketData}
use Rattle.of_messages.specs.{declared.message.PacketData.TheVariants.Buffered, declared.message.PacketData.TheVariants.Frame, declared.message.FlowMod.FlowMod}
use Rattle.of_messages.specs.{declared.message.FlowModCommand.FlowModCommand, declared.message.FlowModCommand.TheVariants.Delete, declared.message.TheConstants.COMMANDS}
use Rattle.of_messages.specs.declared.role.Role.TheVariants as role
pub use Rattle.of_messages.specs.Heads.{version_of, type_of, header_length, xid_of}
use Rattle.of_formats.specs.declared.messages.TheConstants.{BARRIER_REQUEST, ECHO_REPLY, ECHO_REQUEST, ERROR, FEATURES_REQUEST, FLOW_MOD, GET_ASYNC_REQUEST, GET_CONFIG_REQUEST, GROUP_MOD, HELLO, MULTIPART_REQUEST, PACKET_OUT, PORT_MOD, ROLE_REQUEST, SET_ASYNC, SET_CONFIG, TABLE_MOD}
use Rattle.of_formats.specs.{Reading.◌>>=◌, Reading.unless, Reading.known, Structs.numbers, Structs.size}
use Rattle.of_formats.specs.Tables as tables

-- FLOW_MOD (7.3.4.1)

-- the command that a byte names (OFPFC_*)
abbrev pub command_of : ℕ → Option FlowModCommand
command_of byte = slice_get COMMANDS byte

abbrev pub is_delete : FlowModCommand → Bool
is_delete (Delete strict) = true
is_delete other = false

-- the last table is 15; 255 is all tables, which only the two DELETE commands may name
abbrev pub is_bad_table : ℕ → FlowModCommand → Bool
is_bad_table table command = nat_le TABLES table && not (is_delete command && table == OFPTT_ALL)

-- the command, unless it, the table or the flags (five are known) are refused
unfoldable pub command_said : ℕ → ℕ → ℕ → Result FlowModCommand Code
command_said c table flags = do
  command ← known (command_of c) OFPFMFC_BAD_COMMAND
  good ← unless ((is_bad_table table command, OFPFMFC_BAD_TABLE_ID) ∷ (nat_lt FLOW_MOD_FLAGS flags, OFPFMFC_BAD_FLAGS) ∷ [])
  Ok command

-- the two DELETE commands have no instructions, whatever follows the match
abbrev pub instructions_for : FlowModCommand → ℕ → List ℕ → Result (List Instruction) Code
instructions_for command table bytes = if is_delete command then Ok [] else instructions_in_bytes table bytes

-- its numbers, and the match and the instructions that follow them; OFPBAC_MATCH_INCONSISTENT where a set-field action lacks its prerequisites in the match
abbrev pub flow_mod_by : List ℕ → List ℕ → Result FlowMod Code
flow_mod_by (cookie ∷ cookie_mask ∷ table ∷ c ∷ idle ∷ hard ∷ priority ∷ buffer ∷ out_port ∷ out_group ∷ flags ∷ []) rest = do
  command ← command_said c table flags
  m ← match_of rest
  instructions ← instructions_for command table (drop m.1 rest)
  fit ← unless ((not (all_go_with m.0 instructions), OFPBAC_MATCH_INCONSISTENT) ∷ [])
  Ok (record {
    cookie = cookie;
    cookie_mask = cookie_mask;
    table = table;
    command = command;
    idle_timeout = idle;
    hard_timeout = hard;
    priority = priority;
    buffer = buffer;
    out_port = out_port;
    out_group = out_group;
    flags = flags;
    fields = m.0;
    instructions = instructions;
  })
flow_mod_by other rest = Err OFPBRC_BAD_LEN

abbrev pub flow_mod_of : List ℕ → Result FlowMod Code
flow_mod_of m = flow_mod_by (numbers tables.flow_mod 8 m) (drop (8 + size tables.flow_mod) m)

-- PACKET_OUT (7.3.7)

-- the ingress port is a port number or OFPP_CONTROLLER
abbrev pub is_ingress : ℕ → Bool
is_ingress port = is_number port || port == OFPP_CONTROLLER

-- with OFP_NO_BUFFER the frame follows the actions: OFPBRC_BAD_PACKET where it is too short or too long; with a buffer, what follows is not read
abbrev pub packet_in_data : ℕ → List ℕ → Result PacketData Code
packet_in_data buffer frame =
    if buffer == OFP_NO_BUFFER
    then (if is_none (frame_fault frame) then Ok (Frame frame) else Err OFPBRC_BAD_PACKET)
    else Ok (Buffered buffer)

-- OFPBRC_BAD_PORT
abbrev pub packet_out_by : List ℕ → List ℕ → Result PacketOut Code
packet_out_by (buffer ∷ in_port ∷ len ∷ []) rest = do
  good ← unless ((not (is_ingress in_port), OFPBRC_BAD_PORT) ∷ [])
  actions ← actions_said true (take len rest)
  packet ← packet_in_data buffer (drop len rest)
  Ok (record { in_port = in_port; actions = actions; packet = packet })
packet_out_by other rest = Err OFPBRC_BAD_LEN

abbrev pub packet_out_of : List ℕ → Result PacketOut Code
packet_out_of m = packet_out_by (numbers tables.packet_out 8 m) (drop (8 + size tables.packet_out) m)

-- A MESSAGE

-- by its type; another type is always refused, so the last line never applies
unfoldable pub message_body : List ℕ → Result Message Code
message_body m =
    if type_of m == HELLO then Ok Hello
    else if type_of m == ERROR then Ok Error
    else if type_of m == ECHO_REQUEST then Ok (EchoRequest (drop 8 m))
    else if type_of m == ECHO_REPLY then Ok EchoReply
    else if type_of m == FEATURES_REQUEST then Ok FeaturesRequest
    else if type_of m == GET_CONFIG_REQUEST then Ok GetConfigRequest
    else if type_of m == SET_CONFIG then set_config_of m >>= (λ v. Ok (SetConfig v))
    else if type_of m == PACKET_OUT then packet_out_of m >>= (λ v. Ok (IsPacketOut v))
    else if type_of m == FLOW_MOD then flow_mod_of m >>= (λ v. Ok (IsFlowMod v))
    else if type_of m == GROUP_MOD then group_mod_of m >>= (λ v. Ok (IsGroupMod v))
    else if type_of m == PORT_MOD then port_mod_of m >>= (λ v. Ok (IsPortMod v))
    else if type_of m == TABLE_MOD then table_mod_of m >>= (λ v. Ok (IsTableMod v))
    else if type_of m == MULTIPART_REQUEST then multipart_of m >>= (λ v. Ok (Multipart v))
    else if type_of m == BARRIER_REQUEST then Ok BarrierRequest
    else if type_of m == ROLE_REQUEST then role_request_of m >>= (λ v. Ok (IsRoleRequest v))
    else if type_of m == GET_ASYNC_REQUEST then Ok GetAsyncRequest
    else if type_of m == SET_ASYNC then Ok (SetAsync (async_masks_of m))
    else Err OFPBRC_BAD_TYPE

abbrev pub message_by : List ℕ → Option Code → Result Message Code
message_by m (Some code) = Err code
message_by m None = message_body m

-- what a message of a controller of that role says
unfoldable pub message_from : Role → List ℕ → Result Message Code
message_from role m = message_by m (first_of (head_refusals m ++ role_refusals role m))

-- what it says by itself: a controller whose role is equal may send each
abbrev pub message_of : List ℕ → Result Message Code
message_of m = message_from role.Equal m
