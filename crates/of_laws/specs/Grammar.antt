-- THE GRAMMAR: which bytes encode which message of a controller (OpenFlow 1.3.5, 7).
use Rattle.std.specs.Prelude.{◌≡◌, ◌≤◌, ◌<◌, ℕ, bit_and, ◌⊎◌, ⊤, Bool, true, false, List, [], ◌∷◌, ◌++◌, length, take, drop, Option, Some, None}
use Rattle.of_groups.specs.Groups.{kind_number}
use Rattle.of_wire.specs.declared.limits.TheConstants.{OFP_NO_BUFFER, OFPG_ALL, OFPG_MAX, OFPP_CONTROLLER, OFPP_MAX}
use Rattle.of_oxm.specs.MatchGrammar.{EncodesMatch}
use Rattle.of_actions.specs.{Actions.AreActions, FlowCheck.all_go_with, Instructions.EncodesInstructions}
use Rattle.of_messages.specs.declared.message.Message.TheVariants.{Hello, Error, EchoRequest, EchoReply, FeaturesRequest, GetConfigRequest, SetConfig, PacketOut as IsPacketOut, FlowMod as IsFlowMod, GroupMod as IsGroupMod, PortMod as IsPortMod, TableMod as IsTableMod, Multipart, BarrierRequest, RoleRequest as IsRoleRequest, GetAsyncRequest, SetAsync}
use Rattle.of_messages.specs.{Heads.changes_by, declared.async_masks.AsyncMasks.AsyncMasks, declared.group_mod.GroupMod.GroupMod, declared.group_mod.NewGroup.NewGroup}
use Rattle.of_messages.specs.{declared.message.FlowMod.FlowMod, declared.message.FlowModCommand.FlowModCommand}
use Rattle.of_messages.specs.declared.message.FlowModCommand.TheVariants.{Add, Modify, Delete}
use Rattle.of_messages.specs.{declared.message.Message.Message, declared.message.PacketData.PacketData}
use Rattle.of_messages.specs.{declared.message.PacketData.TheVariants.Buffered, declared.message.PacketData.TheVariants.Frame, declared.message.PacketOut.PacketOut, declared.role.Role.Role}
use Rattle.of_messages.specs.declared.role.RoleRequest.{RoleRequest}
use Rattle.of_messages.specs.declared.role.RoleRequest.TheVariants.{NoChange, Equal, Master, Slave}
use Rattle.of_messages.specs.Written.{flow_mod_numbers}
use Rattle.of_messages.specs.declared.group_mod.GroupMod.TheVariants as group
use Rattle.of_messages.specs.declared.role.Role.TheVariants as role
use Rattle.of_formats.specs.declared.messages.TheConstants.{BARRIER_REQUEST, ECHO_REPLY, ECHO_REQUEST, ERROR, FEATURES_REQUEST, FLOW_MOD, GET_ASYNC_REQUEST, GET_CONFIG_REQUEST, GROUP_MOD, HELLO, MULTIPART_REQUEST, PACKET_OUT, PORT_MOD, ROLE_REQUEST, SET_ASYNC, SET_CONFIG, TABLE_MOD}
use Rattle.of_formats.specs.Messages.{message_row}
use Rattle.of_laws.specs.Requests.{NamesTable, or_all, request_cells, RequestTail, IsValidRequest}
use Rattle.of_laws.specs.{Buckets.AreBuckets, StructCells.cells_of, StructCells.without_field, Cells.StructCell, Cells.byte, Cells.pad, Cells.Begins}
use Rattle.of_formats.specs.Tables as tables

-- THE HEADER (7.1, struct ofp_header)

-- the types of messages, OFPT_*
abbrev pub type : Message → ℕ
type Hello = HELLO
type Error = ERROR
type (EchoRequest echoed) = ECHO_REQUEST
type EchoReply = ECHO_REPLY
type FeaturesRequest = FEATURES_REQUEST
type GetConfigRequest = GET_CONFIG_REQUEST
type (SetConfig config) = SET_CONFIG
type (IsPacketOut m) = PACKET_OUT
type (IsFlowMod m) = FLOW_MOD
type (IsGroupMod m) = GROUP_MOD
type (IsPortMod m) = PORT_MOD
type (IsTableMod m) = TABLE_MOD
type (Multipart request) = MULTIPART_REQUEST
type BarrierRequest = BARRIER_REQUEST
type (IsRoleRequest request) = ROLE_REQUEST
type GetAsyncRequest = GET_ASYNC_REQUEST
type (SetAsync masks) = SET_ASYNC

-- a HELLO may be of any version (6.3.1), all others are of version 4
abbrev pub version : Message → StructCell
version Hello = pad 1
version other = byte 4

-- PACKET_OUT (7.3.7, struct ofp_packet_out)

abbrev pub buffer_of : PacketData → ℕ
buffer_of (Buffered number) = number
buffer_of (Frame frame) = OFP_NO_BUFFER

-- the frame follows the actions; for a buffered packet what follows is ignored
abbrev pub IsData : PacketData → List ℕ → Type 0
IsData (Buffered number) bytes = ⊤
IsData (Frame frame) bytes = bytes ≡ frame

-- after the ingress port: how many bytes the actions have, padding, the actions, and the packet
pub record ActionsThenData (m : PacketOut) (tail : List ℕ) : Type 0 where
  pub actions : List ℕ
  pub packet : List ℕ
  pub front : Begins (cells_of (drop 2 tables.packet_out) (length actions ∷ []) []) tail (actions ++ packet)
  pub are : AreActions true [] actions m.actions None
  pub is : IsData m.packet packet

-- OFPBRC_BAD_PACKET for a frame that is shorter than 14 bytes or longer than 9,216
abbrev pub IsValidData : PacketData → Type 0
IsValidData (Buffered number) = ¬ (number ≡ OFP_NO_BUFFER)
IsValidData (Frame frame) = (14 ≤ length frame) × (length frame ≤ 9216)

-- a port, 1 to OFPP_MAX, or OFPP_CONTROLLER: else OFPBRC_BAD_PORT
abbrev pub IsIngress : ℕ → Type 0
IsIngress port = ((1 ≤ port) × (port ≤ OFPP_MAX)) ⊎ (port ≡ OFPP_CONTROLLER)

abbrev pub IsValidPacketOut : PacketOut → Type 0
IsValidPacketOut m = IsIngress m.in_port × IsValidData m.packet

-- FLOW_MOD (7.3.4.1, struct ofp_flow_mod)

abbrev pub flow_mod_cells : FlowMod → List StructCell
flow_mod_cells m = cells_of tables.flow_mod (flow_mod_numbers m) []

abbrev pub deletes : FlowModCommand → Bool
deletes (Delete strict) = true
deletes other = false

-- the two DELETE commands have no instructions, whatever follows
abbrev pub HasInstructions : FlowMod → Bool → List ℕ → Type 0
HasInstructions m false bytes = EncodesInstructions m.table bytes m.instructions
HasInstructions m true bytes = m.instructions ≡ []

-- the match, and the instructions
pub record MatchThenInstructions (m : FlowMod) (tail : List ℕ) : Type 0 where
  pub fields : List ℕ
  pub instructions : List ℕ
  pub whole : tail ≡ fields ++ instructions
  pub encoded : EncodesMatch fields m.fields
  pub are : HasInstructions m (deletes m.command) instructions

-- OFPFMFC_BAD_TABLE_ID: a table, 0 to 15, or OFPTT_ALL for the two DELETE commands
abbrev pub MayName : Bool → ℕ → Type 0
MayName false table = table < 16
MayName true table = NamesTable table

-- OFPFMFC_BAD_FLAGS for a flag beyond the five, and OFPBAC_MATCH_INCONSISTENT where a set-field action lacks its prerequisites in the match
pub record IsValidFlowMod (m : FlowMod) : Type 0 where
  pub table : MayName (deletes m.command) m.table
  pub flags : m.flags < 32
  pub fit : all_go_with m.fields m.instructions ≡ true

-- GROUP_MOD (7.3.4.2, struct ofp_group_mod)

abbrev pub group_cells : ℕ → NewGroup → List StructCell
group_cells command g = cells_of tables.group_mod (command ∷ kind_number g.kind ∷ g.id ∷ []) []

-- OFPGC_*; of a DELETE the type and the buckets are ignored
abbrev pub group_mod_cells : GroupMod → List StructCell
group_mod_cells (group.Add g) = group_cells 0 g
group_mod_cells (group.Modify g) = group_cells 1 g
group_mod_cells (group.Delete which) = cells_of (without_field "type" tables.group_mod) (2 ∷ or_all OFPG_ALL which ∷ []) []

abbrev pub GroupTail : GroupMod → List ℕ → Type 0
GroupTail (group.Add g) tail = AreBuckets g.buckets tail
GroupTail (group.Modify g) tail = AreBuckets g.buckets tail
GroupTail (group.Delete which) tail = ⊤

-- up to OFPG_MAX, else OFPGMFC_INVALID_GROUP; and OFPGMFC_OUT_OF_BUCKETS for more than 16 buckets
abbrev pub IsValidGroup : NewGroup → Type 0
IsValidGroup g = (g.id ≤ OFPG_MAX) × (length g.buckets ≤ 16)

abbrev pub IsValidNumber : Option ℕ → Type 0
IsValidNumber None = ⊤
IsValidNumber (Some number) = number ≤ OFPG_MAX

abbrev pub IsValidGroupMod : GroupMod → Type 0
IsValidGroupMod (group.Add g) = IsValidGroup g
IsValidGroupMod (group.Modify g) = IsValidGroup g
IsValidGroupMod (group.Delete which) = IsValidNumber which

-- ROLE_REQUEST (7.3.9, struct ofp_role_request)

-- OFPCR_ROLE_*, padding, and the generation_id, which counts for a MASTER and a SLAVE alone
abbrev pub role_cells : RoleRequest → List StructCell
role_cells NoChange = cells_of (without_field "generation_id" tables.role) (0 ∷ []) []
role_cells Equal = cells_of (without_field "generation_id" tables.role) (1 ∷ []) []
role_cells (Master generation) = cells_of tables.role (2 ∷ generation ∷ []) []
role_cells (Slave generation) = cells_of tables.role (3 ∷ generation ∷ []) []

-- SET_ASYNC (7.3.10, struct ofp_async_config): while the controller is master or equal, and while it is a slave
abbrev pub async_config_cells : AsyncMasks → List StructCell
async_config_cells a =
    cells_of tables.async_config (a.packet_in.master ∷ a.packet_in.slave ∷ a.port_status.master ∷ a.port_status.slave ∷ a.flow_removed.master ∷ a.flow_removed.slave ∷ []) []

-- EACH MESSAGE

-- Its fields after the header: struct ofp_error_msg (7.4.4), whose type and code are ignored, ofp_switch_config (7.3.2), whose flags are 0 (OFPSCFC_BAD_FLAGS), ofp_port_mod (7.3.4.3), ofp_table_mod (7.3.3), and those above.
abbrev pub message_cells : Message → List StructCell
message_cells Error = cells_of (without_field "type" (without_field "code" tables.error_msg)) [] []
message_cells (SetConfig config) = cells_of tables.switch_config (0 ∷ config.miss_send_len ∷ []) []
message_cells (IsPacketOut m) = cells_of (take 2 tables.packet_out) (buffer_of m.packet ∷ m.in_port ∷ []) []
message_cells (IsFlowMod m) = flow_mod_cells m
message_cells (IsGroupMod m) = group_mod_cells m
message_cells (IsPortMod m) = cells_of tables.port_mod (m.port ∷ m.config ∷ m.mask ∷ []) (m.hw ∷ [])
message_cells (IsTableMod m) = cells_of tables.table_mod (m.table ∷ m.config ∷ []) []
message_cells (Multipart request) = request_cells request
message_cells (IsRoleRequest request) = role_cells request
message_cells (SetAsync masks) = async_config_cells masks
message_cells other = []

-- What follows these: nothing, data, or what is ignored (elements of a HELLO, data of an ERROR and of an ECHO_REPLY).
abbrev pub Tail : Message → List ℕ → Type 0
Tail Hello tail = ⊤
Tail Error tail = ⊤
Tail (EchoRequest echoed) tail = tail ≡ echoed
Tail EchoReply tail = ⊤
Tail (IsPacketOut m) tail = ActionsThenData m tail
Tail (IsFlowMod m) tail = MatchThenInstructions m tail
Tail (IsGroupMod m) tail = GroupTail m tail
Tail (Multipart request) tail = RequestTail request tail
Tail other tail = tail ≡ []

-- Numbers that fit their bytes, but that no message may have: OFPPMFC_BAD_CONFIG for a mask beyond OFPPC_PORT_DOWN, NO_RECV, NO_FWD and NO_PACKET_IN (1, 4, 32 and 64), OFPTMFC_BAD_TABLE, and those above.
abbrev pub IsValid : Message → Type 0
IsValid (IsPacketOut m) = IsValidPacketOut m
IsValid (IsFlowMod m) = IsValidFlowMod m
IsValid (IsGroupMod m) = IsValidGroupMod m
IsValid (IsPortMod m) = bit_and m.mask 101 ≡ m.mask
IsValid (IsTableMod m) = NamesTable m.table
IsValid (Multipart request) = IsValidRequest request
IsValid other = ⊤

-- version, type, length of the message, transaction id, and the fields of the message
abbrev pub fixed_part_cells : Message → ℕ → ℕ → List StructCell
fixed_part_cells m size xid = version m ∷ cells_of (drop 1 tables.header) (type m ∷ size ∷ xid ∷ []) [] ++ message_cells m

-- these bytes, all of them, encode the message with this transaction id
pub record Encodes (xid : ℕ) (m : Message) (bytes : List ℕ) : Type 0 where
  pub tail : List ℕ
  pub front : Begins (fixed_part_cells m (length bytes) xid) bytes tail
  pub behind : Tail m tail
  pub valid : IsValid m

-- WHO MAY SEND IT (6.3.4): a slave may not change the switch or send a packet, else OFPBRC_IS_SLAVE
abbrev pub changes_switch : Message → Bool
changes_switch m = changes_by (message_row (type m))

abbrev pub MaySend : Role → Message → Type 0
MaySend role.Slave m = changes_switch m ≡ false
MaySend other m = ⊤
