-- A MESSAGE IN WORDS: its name, its transaction id, the fields of its type, and how many bytes it has. The words are read from the bytes.
use Rattle.std.specs.Prelude.{ℕ, ◌+◌, ◌==◌, List, [], ◌∷◌, ◌++◌, length, drop, codes, Option, Some, None, Result, Ok, Err, if◌then◌else◌}
use Rattle.std.specs.List.{flat_map}
use Rattle.of_wire.specs.{declared.code.Code.Code, CodeNames.error_name}
use Rattle.of_formats.specs.declared.messages.TheConstants.{ERROR, FEATURES_REPLY, FLOW_MOD, FLOW_REMOVED, GET_ASYNC_REPLY, GET_CONFIG_REPLY, GROUP_MOD, MULTIPART_REPLY, MULTIPART_REQUEST, PACKET_IN, PACKET_OUT, PORT_MOD, PORT_STATUS, ROLE_REPLY, ROLE_REQUEST, SET_ASYNC, SET_CONFIG, TABLE_MOD}
use Rattle.of_formats.specs.Structs.{size}
use Rattle.of_formats.specs.Tables as tables
use Rattle.of_oxm.specs.{declared.match_field.MatchField.MatchField, MatchReading.match_of}
use Rattle.of_values.specs.Entries.{field_words}
use Rattle.of_explain.specs.declared.fields.Form.TheVariants.{Plainly, Named, InHex, UnlessAny, UnlessZero}
use Rattle.of_explain.specs.declared.names.Names.TheVariants.{Types, ErrorTypes, PacketInReasons, FlowRemovedReasons, PortStatusReasons, FlowCommands, GroupCommands, Multiparts, Roles}
use Rattle.of_explain.specs.Fields.{Field, fields, field_number, labelled_field, fields_words}
use Rattle.of_explain.specs.{Names.name_or_number, Names.name_in, Notes.size_words}

-- ---- the fields of each type of message, behind the eight bytes of its header, in the order of the text

-- 7.1
abbrev pub header_fields : List Field
header_fields = fields 0 tables.header (labelled_field "xid" " xid" Plainly ∷ [])

-- the capabilities are a sum of bits (7.3.1)
abbrev pub features : List Field
features =
    fields 8 tables.switch_features
    (labelled_field "datapath_id" " datapath" InHex ∷ labelled_field "n_buffers" " buffers" Plainly ∷ labelled_field "n_tables" " tables" Plainly
    ∷ labelled_field "auxiliary_id" " auxiliary_id" Plainly ∷ labelled_field "capabilities" " capabilities" Plainly ∷ [])

-- 7.3.2
abbrev pub config : List Field
config = fields 8 tables.switch_config (labelled_field "flags" " flags" Plainly ∷ labelled_field "miss_send_len" " miss_send_len" Plainly ∷ [])

-- the buffer id is that of a frame that is held (7.4.1)
abbrev pub packet_in_fields : List Field
packet_in_fields =
    fields 8 tables.packet_in
    (labelled_field "reason" " reason" (Named PacketInReasons) ∷ labelled_field "table_id" " table" Plainly ∷ labelled_field "cookie" " cookie" InHex
    ∷ labelled_field "total_len" " frame of" Plainly ∷ labelled_field "buffer_id" " buffer" UnlessAny ∷ [])

-- 7.4.2
abbrev pub flow_removed_fields : List Field
flow_removed_fields =
    fields 8 tables.flow_removed
    (labelled_field "reason" " reason" (Named FlowRemovedReasons) ∷ labelled_field "table_id" " table" Plainly ∷ labelled_field "priority" " priority" Plainly ∷ labelled_field "cookie" " cookie" InHex
    ∷ labelled_field "duration_sec" " seconds" Plainly ∷ labelled_field "packet_count" " packets" Plainly ∷ labelled_field "byte_count" " bytes" Plainly ∷ [])

-- the configuration and the state are sums of bits (7.2.1 and 7.4.3)
abbrev pub port_status_fields : List Field
port_status_fields =
    fields 8 tables.port_status
    (labelled_field "reason" " reason" (Named PortStatusReasons) ∷ labelled_field "port_no" " port" Plainly ∷ labelled_field "config" " config" Plainly ∷ labelled_field "state" " state" Plainly ∷ [])

-- 7.3.7
abbrev pub packet_out_fields : List Field
packet_out_fields = fields 8 tables.packet_out (labelled_field "buffer_id" " buffer" UnlessAny ∷ labelled_field "in_port" " in_port" Plainly ∷ [])

-- 7.3.4.1
abbrev pub flow_mod_fields : List Field
flow_mod_fields =
    fields 8 tables.flow_mod
    (labelled_field "command" "" (Named FlowCommands) ∷ labelled_field "table_id" " table" Plainly ∷ labelled_field "priority" " priority" Plainly ∷ labelled_field "cookie" " cookie" InHex
    ∷ labelled_field "idle_timeout" " idle" Plainly ∷ labelled_field "hard_timeout" " hard" Plainly ∷ labelled_field "flags" " flags" Plainly ∷ labelled_field "cookie_mask" " cookie_mask" UnlessZero
    ∷ labelled_field "buffer_id" " buffer" UnlessAny ∷ labelled_field "out_port" " out_port" UnlessAny ∷ labelled_field "out_group" " out_group" UnlessAny ∷ [])

-- 7.3.4.2
abbrev pub group_mod_fields : List Field
group_mod_fields = fields 8 tables.group_mod (labelled_field "command" "" (Named GroupCommands) ∷ labelled_field "group_id" " group" Plainly ∷ [])

-- the configuration and its mask are sums of bits (7.3.4.3 and 7.2.1)
abbrev pub port_mod_fields : List Field
port_mod_fields =
    fields 8 tables.port_mod
    (labelled_field "port_no" " port" Plainly ∷ labelled_field "hw_addr" " hw" InHex ∷ labelled_field "config" " config" Plainly ∷ labelled_field "mask" " mask" Plainly ∷ [])

-- 7.3.3
abbrev pub table_mod_fields : List Field
table_mod_fields = fields 8 tables.table_mod (labelled_field "table_id" " table" Plainly ∷ labelled_field "config" " config" Plainly ∷ [])

-- 7.3.9
abbrev pub role_fields : List Field
role_fields = fields 8 tables.role (labelled_field "role" "" (Named Roles) ∷ labelled_field "generation_id" " generation" Plainly ∷ [])

-- masks of reasons, each that of a master or equal controller, and behind it that of a slave (7.3.10)
abbrev pub and_slave : Field → List Field
and_slave f = f ∷ record f { word = codes " slave"; at = f.at + f.size } ∷ []

abbrev pub async : List Field
async =
    flat_map and_slave
    (fields 8 tables.async_config
    (labelled_field "packet_in_mask" " packet_in" Plainly ∷ labelled_field "port_status_mask" " port_status" Plainly ∷ labelled_field "flow_removed_mask" " flow_removed" Plainly ∷ []))

-- by the type (7.1)
unfoldable pub told_of : ℕ → List Field
told_of type =
    if type == FEATURES_REPLY then features
    else if type == GET_CONFIG_REPLY then config
    else if type == SET_CONFIG then config
    else if type == FLOW_REMOVED then flow_removed_fields
    else if type == PORT_STATUS then port_status_fields
    else if type == PACKET_OUT then packet_out_fields
    else if type == FLOW_MOD then flow_mod_fields
    else if type == GROUP_MOD then group_mod_fields
    else if type == PORT_MOD then port_mod_fields
    else if type == TABLE_MOD then table_mod_fields
    else if type == ROLE_REQUEST then role_fields
    else if type == ROLE_REPLY then role_fields
    else if type == GET_ASYNC_REPLY then async
    else if type == SET_ASYNC then async
    else []

-- ---- ERROR (7.4.4)

-- the names of the type and the code
unfoldable pub and_code : Option ℕ → Option ℕ → List ℕ
and_code None code = []
and_code (Some kind) None = []
and_code (Some kind) (Some code) = 32 ∷ name_in ErrorTypes kind ++ 32 ∷ name_or_number (error_name kind code) code

-- the type of the message that is refused, where its first bytes are there
abbrev pub refused_fields : List Field
refused_fields = fields 12 tables.header (labelled_field "type" " for" (Named Types) ∷ [])

unfoldable pub error_fields : List ℕ → List ℕ
error_fields m = and_code (field_number "type" 8 tables.error_msg m) (field_number "code" 8 tables.error_msg m) ++ fields_words refused_fields m

-- ---- MULTIPART_REQUEST and MULTIPART_REPLY (7.3.5)

abbrev pub multipart_head_fields : List Field
multipart_head_fields = fields 8 tables.multipart (labelled_field "type" "" (Named Multiparts) ∷ [])

abbrev pub multipart_type : List ℕ → Option ℕ
multipart_type m = field_number "type" 8 tables.multipart m

-- which entries are asked for (7.3.5.2 and 7.3.5.3)
abbrev pub asked_entries : List Field
asked_entries =
    fields 16 tables.flow_stats_request
    (labelled_field "table_id" " table" Plainly ∷ labelled_field "out_port" " out_port" UnlessAny ∷ labelled_field "out_group" " out_group" UnlessAny ∷ labelled_field "cookie" " cookie" UnlessZero
    ∷ labelled_field "cookie_mask" " cookie_mask" UnlessZero ∷ [])

-- what is asked for, by the type
unfoldable pub asked_for_fields : Option ℕ → List Field
asked_for_fields None = []
asked_for_fields (Some type) =
    if type == 1 then asked_entries
    else if type == 2 then asked_entries
    else if type == 4 then fields 16 tables.port_stats_request (labelled_field "port_no" " port" UnlessAny ∷ [])
    else if type == 6 then fields 16 tables.group_stats_request (labelled_field "group_id" " group" UnlessAny ∷ [])
    else []

unfoldable pub multipart_fields : List ℕ → List ℕ
multipart_fields m = fields_words multipart_head_fields m ++ fields_words (asked_for_fields (multipart_type m)) m

-- of AGGREGATE what the entries have counted (7.3.5.3); other replies have rows, which stand below
unfoldable pub counted_by : Option ℕ → List Field
counted_by None = []
counted_by (Some type) =
    if type == 2
    then fields 16 tables.aggregate_stats
    (labelled_field "packet_count" " packets" Plainly ∷ labelled_field "byte_count" " bytes" Plainly ∷ labelled_field "flow_count" " flows" Plainly ∷ [])
    else []

unfoldable pub multipart_reply_fields : List ℕ → List ℕ
multipart_reply_fields m = fields_words multipart_head_fields m ++ fields_words (counted_by (multipart_type m)) m

-- ---- PACKET_IN (7.4.1): behind its fields those of its match, such as the ingress port and the metadata

abbrev pub spaced_field : MatchField → List ℕ
spaced_field e = 32 ∷ field_words e

-- a match that is refused has no words
abbrev pub and_match : Result (List MatchField × ℕ) Code → List ℕ
and_match (Ok found) = flat_map spaced_field found.0
and_match (Err code) = []

unfoldable pub packet_in_and_match : List ℕ → List ℕ
packet_in_and_match m = fields_words packet_in_fields m ++ and_match (match_of (drop (8 + size tables.packet_in) m))

-- ---- by the type (7.1)

unfoldable pub fields_of_message : ℕ → List ℕ → List ℕ
fields_of_message type m =
    if type == ERROR then error_fields m
    else if type == PACKET_IN then packet_in_and_match m
    else if type == MULTIPART_REQUEST then multipart_fields m
    else if type == MULTIPART_REPLY then multipart_reply_fields m
    else fields_words (told_of type) m

unfoldable pub type_and_fields : Option ℕ → List ℕ → List ℕ
type_and_fields None m = []
type_and_fields (Some type) m = name_in Types type ++ fields_words header_fields m ++ fields_of_message type m

-- THE WORDS OF A MESSAGE
unfoldable pub message_words : List ℕ → List ℕ
message_words m = type_and_fields (field_number "type" 0 tables.header m) m ++ size_words (length m)
