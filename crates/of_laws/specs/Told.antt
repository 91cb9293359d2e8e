-- WHAT A SWITCH SENDS: which bytes encode which message of this switch (OpenFlow 1.3.5, 7), except for the replies to multipart requests (Replied).
use Rattle.std.specs.Prelude.{◌≡◌, ◌==◌, ℕ, if◌then◌else◌, List, [], ◌∷◌, ◌++◌, length, None}
use Rattle.of_wire.specs.{declared.code.Code.Code, Reasons.packet_in_number, Reasons.flow_removed_number}
use Rattle.of_layers.specs.declared.field.Field.TheVariants.{InPort, Metadata}
use Rattle.of_oxm.specs.{declared.match_field.MatchField.MatchField, MatchGrammar.EncodesMatch}
use Rattle.of_messages.specs.{declared.async_masks.AsyncMasks.AsyncMasks, declared.config.SwitchConfig.SwitchConfig, declared.message.FlowRemoved.FlowRemoved, declared.message.PacketIn.PacketIn}
use Rattle.of_messages.specs.{declared.port_mod.PortDescription.PortDescription, declared.port_mod.PortStatusReason.PortStatusReason, declared.role.Role.Role}
use Rattle.of_messages.specs.declared.port_mod.PortStatusReason.TheVariants as status
use Rattle.of_messages.specs.declared.role.Role.TheVariants as role
use Rattle.of_formats.specs.declared.messages.TheConstants.{BARRIER_REPLY, ECHO_REPLY, ERROR, FEATURES_REPLY, FLOW_REMOVED, GET_ASYNC_REPLY, GET_CONFIG_REPLY, HELLO, PACKET_IN, PORT_STATUS, ROLE_REPLY}
use Rattle.of_laws.specs.{StructCells.cells_of, Cells.StructCell, Cells.pad, Cells.Begins, Grammar.async_config_cells}
use Rattle.of_formats.specs.Tables as tables

-- HELLO with a bitmap of versions, ERROR with its data, ECHO_REPLY with its data, FEATURES_REPLY with the datapath id, GET_CONFIG_REPLY, PACKET_IN with its data, FLOW_REMOVED with its match, PORT_STATUS, BARRIER_REPLY, ROLE_REPLY with its generation, and GET_ASYNC_REPLY
pub data Told : Type 0 where
  hello : ℕ → Told
  error : Code → List ℕ → Told
  echo_reply : List ℕ → Told
  features_reply : ℕ → Told
  config_reply : SwitchConfig → Told
  packet_in : PacketIn → List ℕ → Told
  flow_removed : FlowRemoved → List MatchField → Told
  port_status : PortStatusReason → PortDescription → Told
  barrier_reply : Told
  role_reply : Role → ℕ → Told
  async_reply : AsyncMasks → Told

-- OFPT_*
abbrev pub switch_message_type : Told → ℕ
switch_message_type (hello bitmap) = HELLO
switch_message_type (error code failed) = ERROR
switch_message_type (echo_reply echoed) = ECHO_REPLY
switch_message_type (features_reply dpid) = FEATURES_REPLY
switch_message_type (config_reply config) = GET_CONFIG_REPLY
switch_message_type (packet_in p «data») = PACKET_IN
switch_message_type (flow_removed r fields) = FLOW_REMOVED
switch_message_type (port_status reason port) = PORT_STATUS
switch_message_type barrier_reply = BARRIER_REPLY
switch_message_type (role_reply role generation) = ROLE_REPLY
switch_message_type (async_reply masks) = GET_ASYNC_REPLY

-- OFPPR_* (7.4.3), OFPCR_ROLE_* (7.3.9)
abbrev pub port_reason : PortStatusReason → ℕ
port_reason status.Add = 0
port_reason status.Delete = 1
port_reason status.Modify = 2

abbrev pub role_value : Role → ℕ
role_value role.Equal = 1
role_value role.Master = 2
role_value role.Slave = 3

-- struct ofp_switch_features (7.3.1): 256 buffers, 16 tables, no auxiliary connection, OFPC_FLOW_STATS, TABLE_STATS, PORT_STATS and GROUP_STATS
abbrev pub features_cells : ℕ → List StructCell
features_cells dpid = cells_of tables.switch_features (dpid ∷ 256 ∷ 16 ∷ 0 ∷ 15 ∷ []) []

-- struct ofp_packet_in (7.4.1), before the match
abbrev pub packet_in_cells : PacketIn → List StructCell
packet_in_cells p = cells_of tables.packet_in (p.buffer ∷ p.total_len ∷ packet_in_number p.reason ∷ p.table ∷ p.cookie ∷ []) []

-- struct ofp_flow_removed (7.4.2), before the match
abbrev pub removed_cells : FlowRemoved → List StructCell
removed_cells r =
    cells_of tables.flow_removed
    (r.cookie ∷ r.priority ∷ flow_removed_number r.reason ∷ r.table ∷ r.duration_sec ∷ r.duration_nsec ∷ r.idle_timeout ∷ r.hard_timeout ∷ r.packets ∷ r.bytes ∷ []) []

-- struct ofp_port (7.2.1): no features (four words) and no speeds (two)
abbrev pub port_numbers : PortDescription → List ℕ
port_numbers p = p.number ∷ p.config ∷ p.state ∷ 0 ∷ 0 ∷ 0 ∷ 0 ∷ 0 ∷ 0 ∷ []

abbrev pub port_cells : PortDescription → List StructCell
port_cells p = cells_of tables.port (port_numbers p) (p.hw ∷ p.name ∷ [])

-- the fields after the header; of a HELLO one element, OFPHET_VERSIONBITMAP, of 8 bytes (7.5.1)
abbrev pub told_cells : Told → List StructCell
told_cells (hello bitmap) = cells_of tables.hello_elem_versionbitmap (1 ∷ 8 ∷ bitmap ∷ []) []
told_cells (error code failed) = cells_of tables.error_msg (code.kind ∷ code.code ∷ []) []
told_cells (echo_reply echoed) = []
told_cells (features_reply dpid) = features_cells dpid
told_cells (config_reply config) = cells_of tables.switch_config (0 ∷ config.miss_send_len ∷ []) []
told_cells (packet_in p «data») = packet_in_cells p
told_cells (flow_removed r fields) = removed_cells r
told_cells (port_status reason p) = cells_of tables.port_status (port_reason reason ∷ port_numbers p) (p.hw ∷ p.name ∷ [])
told_cells barrier_reply = []
told_cells (role_reply role generation) = cells_of tables.role (role_value role ∷ generation ∷ []) []
told_cells (async_reply masks) = async_config_cells masks

-- the match of a PACKET_IN: the ingress port, and the metadata where it is not 0
abbrev pub told_fields : PacketIn → List MatchField
told_fields p =
    record { field = InPort; value = p.in_port; mask = None }
    ∷ (if p.metadata == 0 then [] else record { field = Metadata; value = p.metadata; mask = None } ∷ [])

-- the match, two bytes of padding, and the data
pub record MatchThenData (p : PacketIn) («data» tail : List ℕ) : Type 0 where
  pub fields : List ℕ
  pub rest : List ℕ
  pub whole : tail ≡ fields ++ rest
  pub encoded : EncodesMatch fields (told_fields p)
  pub behind : Begins (pad 2 ∷ []) rest «data»

abbrev pub ToldTail : Told → List ℕ → Type 0
ToldTail (hello bitmap) tail = tail ≡ []
ToldTail (error code failed) tail = tail ≡ failed
ToldTail (echo_reply echoed) tail = tail ≡ echoed
ToldTail (features_reply dpid) tail = tail ≡ []
ToldTail (config_reply config) tail = tail ≡ []
ToldTail (packet_in p «data») tail = MatchThenData p «data» tail
ToldTail (flow_removed r fields) tail = EncodesMatch tail fields
ToldTail (port_status reason port) tail = tail ≡ []
ToldTail barrier_reply tail = tail ≡ []
ToldTail (role_reply role generation) tail = tail ≡ []
ToldTail (async_reply masks) tail = tail ≡ []

abbrev pub switch_message_fixed_part : Told → ℕ → ℕ → List StructCell
switch_message_fixed_part t size xid = cells_of tables.header (4 ∷ switch_message_type t ∷ size ∷ xid ∷ []) [] ++ told_cells t

-- these bytes, all of them, encode this message with this transaction id
pub record EncodesSwitchMessage (xid : ℕ) (t : Told) (bytes : List ℕ) : Type 0 where
  pub tail : List ℕ
  pub front : Begins (switch_message_fixed_part t (length bytes) xid) bytes tail
  pub behind : ToldTail t tail
