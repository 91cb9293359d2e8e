-- The bytes of the messages that the switch sends.
use Rattle.std.specs.Prelude.{◌≡◌, ◌≤◌, ℕ, ◌+◌, ◌==◌, if◌then◌else◌, List, [], ◌∷◌, ◌++◌, length, replicate, Option, None}
use Rattle.byteorder.specs.Endian.{big_bytes}
use Rattle.of_wire.specs.{declared.code.Code.Code, Reasons.flow_removed_number, Reasons.packet_in_number, declared.limits.TheConstants.BUFFERS}
use Rattle.of_oxm.specs.{declared.match_field.MatchField.MatchField, Canonical.canonical}
use Rattle.of_layers.specs.declared.field.Field.TheVariants.{InPort, Metadata}
use Rattle.of_actions.specs.CanonicalInstructions.{canonical_instructions}
use Rattle.of_formats.specs.declared.messages.TheConstants.{BARRIER_REPLY, ECHO_REPLY, ERROR, FEATURES_REPLY, FLOW_MOD, FLOW_REMOVED, GET_ASYNC_REPLY, GET_CONFIG_REPLY, HELLO, PACKET_IN, PORT_STATUS, ROLE_REPLY}
use Rattle.of_formats.specs.Structs.{written}
use Rattle.of_formats.specs.Tables as tables
use Rattle.of_messages.specs.{Heads.version_of, Heads.header_length, Roles.role_number, Roles.generation_number, declared.async_masks.AsyncMasks.AsyncMasks}
use Rattle.of_messages.specs.{declared.config.SwitchConfig.SwitchConfig, declared.role.Role.Role, declared.message.FlowMod.FlowMod, declared.message.FlowModCommand.FlowModCommand}
use Rattle.of_messages.specs.declared.message.FlowModCommand.TheVariants.{Add, Modify, Delete}
use Rattle.of_messages.specs.{declared.message.PacketIn.PacketIn, declared.port_mod.PortDescription.PortDescription, declared.port_mod.PortStatusReason.PortStatusReason}
use Rattle.of_messages.specs.declared.message.FlowRemoved.{FlowRemoved}
use Rattle.of_messages.specs.declared.port_mod.PortStatusReason.TheVariants as status

-- version 4, type, length, transaction id (OpenFlow 1.3.5, 7.1)
abbrev pub message_header : ℕ → ℕ → ℕ → List ℕ
message_header kind size xid = written tables.header (4 ∷ kind ∷ size ∷ xid ∷ [])

-- a message of that type, with its length
abbrev pub message : ℕ → ℕ → List ℕ → List ℕ
message kind xid body = message_header kind (8 + length body) xid ++ body

-- bytes that are one message: 8 to 65,535 of them, of version 4, and the header says how many (7.1)
abbrev pub IsMessage : List ℕ → Type 0
IsMessage bytes = (8 ≤ length bytes) × (length bytes ≤ 65535) × (version_of bytes ≡ 4) × (header_length bytes ≡ length bytes)

-- the HELLO of this switch: one element, the bitmap of versions, in which bit 4 is set (7.5.1)
abbrev pub hello_bytes : List ℕ
hello_bytes = message HELLO 0 (written tables.hello_elem_versionbitmap (1 ∷ 8 ∷ 16 ∷ []))

-- 7.4.4
abbrev pub error_bytes : ℕ → Code → List ℕ → List ℕ
error_bytes xid code failed = message ERROR xid (written tables.error_msg (code.kind ∷ code.code ∷ []) ++ failed)

-- 7.5.3
abbrev pub echo_reply_bytes : ℕ → List ℕ → List ℕ
echo_reply_bytes xid «data» = message ECHO_REPLY xid «data»

-- 7.3.8
abbrev pub barrier_reply_bytes : ℕ → List ℕ
barrier_reply_bytes xid = message BARRIER_REPLY xid []

-- the datapath id; 256 buffers, 16 tables, no auxiliary connection, and the capabilities OFPC_FLOW_STATS, TABLE_STATS, PORT_STATS and GROUP_STATS (7.3.1)
unfoldable pub features_body : ℕ → List ℕ
features_body dpid = written tables.switch_features (dpid ∷ BUFFERS ∷ 16 ∷ 0 ∷ 15 ∷ [])

abbrev pub features_reply_bytes : ℕ → ℕ → List ℕ
features_reply_bytes xid dpid = message FEATURES_REPLY xid (features_body dpid)

-- no flags (7.3.2)
abbrev pub config_reply_bytes : ℕ → SwitchConfig → List ℕ
config_reply_bytes xid config = message GET_CONFIG_REPLY xid (written tables.switch_config (0 ∷ config.miss_send_len ∷ []))

-- 7.3.9
abbrev pub role_reply_bytes : ℕ → Role → Option ℕ → List ℕ
role_reply_bytes xid role generation = message ROLE_REPLY xid (written tables.role (role_number role ∷ generation_number generation ∷ []))

abbrev pub async_reply_bytes : ℕ → AsyncMasks → List ℕ
async_reply_bytes xid m =
    message GET_ASYNC_REPLY xid (written tables.async_config
    (m.packet_in.master ∷ m.packet_in.slave ∷ m.port_status.master ∷ m.port_status.slave ∷ m.flow_removed.master ∷ m.flow_removed.slave ∷ []))

-- FLOW_REMOVED (7.4.2)

-- the fields before the match
unfoldable pub flow_removed_fixed_part : FlowRemoved → List ℕ
flow_removed_fixed_part r =
    written tables.flow_removed
    (r.cookie ∷ r.priority ∷ flow_removed_number r.reason ∷ r.table ∷ r.duration_sec ∷ r.duration_nsec
    ∷ r.idle_timeout ∷ r.hard_timeout ∷ r.packets ∷ r.bytes ∷ [])

abbrev pub flow_removed_bytes : ℕ → FlowRemoved → List MatchField → List ℕ
flow_removed_bytes xid removed fields = message FLOW_REMOVED xid (flow_removed_fixed_part removed ++ canonical fields)

-- PACKET_IN (7.4.1)

-- the match has the ingress port, and the metadata where it is not 0
abbrev pub packet_fields : ℕ → ℕ → List MatchField
packet_fields in_port metadata =
    record { field = InPort; value = in_port; mask = None }
    ∷ (if metadata == 0 then [] else record { field = Metadata; value = metadata; mask = None } ∷ [])

-- the fields before the match
unfoldable pub packet_in_fixed_part : PacketIn → List ℕ
packet_in_fixed_part p = written tables.packet_in (p.buffer ∷ p.total_len ∷ packet_in_number p.reason ∷ p.table ∷ p.cookie ∷ [])

-- the data are the first bytes of a frame of p.total_len: all of them, or of a held one as many as the switch tells
abbrev pub packet_in_bytes : ℕ → PacketIn → List ℕ → List ℕ
packet_in_bytes xid p «data» = message PACKET_IN xid (packet_in_fixed_part p ++ (canonical (packet_fields p.in_port p.metadata) ++ (replicate 2 0 ++ «data»)))

-- FLOW_MOD (7.3.4.1), as a controller sends it

abbrev pub command_number : FlowModCommand → ℕ
command_number Add = 0
command_number (Modify strict) = if strict then 2 else 1
command_number (Delete strict) = if strict then 4 else 3

abbrev pub flow_mod_numbers : FlowMod → List ℕ
flow_mod_numbers m =
    m.cookie ∷ m.cookie_mask ∷ m.table ∷ command_number m.command ∷ m.idle_timeout ∷ m.hard_timeout ∷ m.priority
    ∷ m.buffer ∷ m.out_port ∷ m.out_group ∷ m.flags ∷ []

-- the fields before the match
unfoldable pub flow_mod_fixed_part : FlowMod → List ℕ
flow_mod_fixed_part m = written tables.flow_mod (flow_mod_numbers m)

abbrev pub flow_mod_bytes : ℕ → FlowMod → List ℕ
flow_mod_bytes xid m = message FLOW_MOD xid (flow_mod_fixed_part m ++ (canonical m.fields ++ canonical_instructions m.instructions))

-- PORT_STATUS (7.4.3)

abbrev pub status_number : PortStatusReason → ℕ
status_number status.Add = 0
status_number status.Delete = 1
status_number status.Modify = 2

-- a port's number, hardware address and name
unfoldable pub port_names : PortDescription → List ℕ
port_names p = big_bytes 4 p.number ++ (replicate 4 0 ++ (p.hw ++ (replicate 2 0 ++ p.name)))

-- its configuration and state, without features and speeds
unfoldable pub port_bits : PortDescription → List ℕ
port_bits p = big_bytes 4 p.config ++ (big_bytes 4 p.state ++ replicate 24 0)

-- the 64 bytes of a port (7.2.1)
abbrev pub port_bytes : PortDescription → List ℕ
port_bytes p = port_names p ++ port_bits p

abbrev pub port_status_bytes : ℕ → PortStatusReason → PortDescription → List ℕ
port_status_bytes xid reason p = message PORT_STATUS xid ((status_number reason ∷ replicate 7 0) ++ port_bytes p)
