-- THE STRUCTS (OpenFlow 1.3.5; the section stands before each), the fields under the names of the standard. What is ignored in a message that is read is padding here too.
use Rattle.std.specs.Prelude.{ℕ, [], ◌∷◌, ◌++◌}
use Rattle.of_formats.specs.Structs.{Struct, number, plain, pad, u8, u16, u32, u64}

-- 7.1, struct ofp_header
abbrev pub header : Struct
header = u8 "version" ∷ u8 "type" ∷ u16 "length" ∷ u32 "xid" ∷ []

-- 7.2.1, struct ofp_port
abbrev pub port : Struct
port =
    u32 "port_no" ∷ pad 4 ∷ plain "hw_addr" 6 ∷ pad 2 ∷ plain "name" 16 ∷ u32 "config" ∷ u32 "state"
    ∷ u32 "curr" ∷ u32 "advertised" ∷ u32 "supported" ∷ u32 "peer" ∷ u32 "curr_speed" ∷ u32 "max_speed" ∷ []

-- 7.2.4, struct ofp_instruction
abbrev pub instruction_goto_table : Struct
instruction_goto_table = u16 "type" ∷ u16 "len" ∷ u8 "table_id" ∷ pad 3 ∷ []

abbrev pub instruction_write_metadata : Struct
instruction_write_metadata = u16 "type" ∷ u16 "len" ∷ pad 4 ∷ u64 "metadata" ∷ u64 "metadata_mask" ∷ []

abbrev pub instruction_actions : Struct
instruction_actions = u16 "type" ∷ u16 "len" ∷ pad 4 ∷ []

-- 7.2.5, struct ofp_action_header, and those that begin with it
abbrev pub action_header : Struct
action_header = u16 "type" ∷ u16 "len" ∷ pad 4 ∷ []

abbrev pub action_output : Struct
action_output = u16 "type" ∷ u16 "len" ∷ u32 "port" ∷ u16 "max_len" ∷ pad 6 ∷ []

abbrev pub action_push : Struct
action_push = u16 "type" ∷ u16 "len" ∷ u16 "ethertype" ∷ pad 2 ∷ []

abbrev pub action_group : Struct
action_group = u16 "type" ∷ u16 "len" ∷ u32 "group_id" ∷ []

abbrev pub action_nw_ttl : Struct
action_nw_ttl = u16 "type" ∷ u16 "len" ∷ u8 "nw_ttl" ∷ pad 3 ∷ []

-- the value has so many bytes, and is padded to a multiple of 8
abbrev pub action_set_field : ℕ → ℕ → Struct
action_set_field w padding = u16 "type" ∷ u16 "len" ∷ u16 "oxm_class" ∷ u8 "oxm_field" ∷ u8 "oxm_length" ∷ number "value" w ∷ pad padding ∷ []

-- 7.3.1, struct ofp_switch_features
abbrev pub switch_features : Struct
switch_features = u64 "datapath_id" ∷ u32 "n_buffers" ∷ u8 "n_tables" ∷ u8 "auxiliary_id" ∷ pad 2 ∷ u32 "capabilities" ∷ pad 4 ∷ []

-- 7.3.2, struct ofp_switch_config
abbrev pub switch_config : Struct
switch_config = u16 "flags" ∷ u16 "miss_send_len" ∷ []

-- 7.3.3, struct ofp_table_mod
abbrev pub table_mod : Struct
table_mod = u8 "table_id" ∷ pad 3 ∷ u32 "config" ∷ []

-- 7.3.4.1, struct ofp_flow_mod
abbrev pub flow_mod : Struct
flow_mod =
    u64 "cookie" ∷ u64 "cookie_mask" ∷ u8 "table_id" ∷ u8 "command" ∷ u16 "idle_timeout" ∷ u16 "hard_timeout" ∷ u16 "priority"
    ∷ u32 "buffer_id" ∷ u32 "out_port" ∷ u32 "out_group" ∷ u16 "flags" ∷ pad 2 ∷ []

-- 7.3.4.2, struct ofp_group_mod and ofp_bucket
abbrev pub group_mod : Struct
group_mod = u16 "command" ∷ u8 "type" ∷ pad 1 ∷ u32 "group_id" ∷ []

abbrev pub bucket : Struct
bucket = u16 "len" ∷ u16 "weight" ∷ u32 "watch_port" ∷ u32 "watch_group" ∷ pad 4 ∷ []

-- 7.3.4.3, struct ofp_port_mod; what is to be advertised is ignored
abbrev pub port_mod : Struct
port_mod = u32 "port_no" ∷ pad 4 ∷ plain "hw_addr" 6 ∷ pad 2 ∷ u32 "config" ∷ u32 "mask" ∷ pad 4 ∷ pad 4 ∷ []

-- 7.3.5, struct ofp_multipart_request and ofp_multipart_reply
abbrev pub multipart : Struct
multipart = u16 "type" ∷ u16 "flags" ∷ pad 4 ∷ []

-- 7.3.5.1, struct ofp_desc
abbrev pub desc : Struct
desc = plain "mfr_desc" 256 ∷ plain "hw_desc" 256 ∷ plain "sw_desc" 256 ∷ plain "serial_num" 32 ∷ plain "dp_desc" 256 ∷ []

-- 7.3.5.2, struct ofp_flow_stats_request (7.3.5.3: ofp_aggregate_stats_request is the same) and ofp_flow_stats
abbrev pub flow_stats_request : Struct
flow_stats_request = u8 "table_id" ∷ pad 3 ∷ u32 "out_port" ∷ u32 "out_group" ∷ pad 4 ∷ u64 "cookie" ∷ u64 "cookie_mask" ∷ []

abbrev pub flow_stats : Struct
flow_stats =
    u16 "length" ∷ u8 "table_id" ∷ pad 1 ∷ u32 "duration_sec" ∷ u32 "duration_nsec" ∷ u16 "priority" ∷ u16 "idle_timeout" ∷ u16 "hard_timeout"
    ∷ u16 "flags" ∷ pad 4 ∷ u64 "cookie" ∷ u64 "packet_count" ∷ u64 "byte_count" ∷ []

-- 7.3.5.3, struct ofp_aggregate_stats_reply
abbrev pub aggregate_stats : Struct
aggregate_stats = u64 "packet_count" ∷ u64 "byte_count" ∷ u32 "flow_count" ∷ pad 4 ∷ []

-- 7.3.5.4, struct ofp_table_stats
abbrev pub table_stats : Struct
table_stats = u8 "table_id" ∷ pad 3 ∷ u32 "active_count" ∷ u64 "lookup_count" ∷ u64 "matched_count" ∷ []

-- 7.3.5.6, struct ofp_port_stats_request and ofp_port_stats
abbrev pub port_stats_request : Struct
port_stats_request = u32 "port_no" ∷ pad 4 ∷ []

abbrev pub port_stats : Struct
port_stats =
    u32 "port_no" ∷ pad 4 ∷ u64 "rx_packets" ∷ u64 "tx_packets" ∷ u64 "rx_bytes" ∷ u64 "tx_bytes" ∷ u64 "rx_dropped" ∷ u64 "tx_dropped" ∷ u64 "rx_errors"
    ∷ u64 "tx_errors" ∷ u64 "rx_frame_err" ∷ u64 "rx_over_err" ∷ u64 "rx_crc_err" ∷ u64 "collisions" ∷ u32 "duration_sec" ∷ u32 "duration_nsec" ∷ []

-- 7.3.5.9, struct ofp_group_stats_request, ofp_group_stats and ofp_bucket_counter
abbrev pub group_stats_request : Struct
group_stats_request = u32 "group_id" ∷ pad 4 ∷ []

abbrev pub group_stats : Struct
group_stats =
    u16 "length" ∷ pad 2 ∷ u32 "group_id" ∷ u32 "ref_count" ∷ pad 4 ∷ u64 "packet_count" ∷ u64 "byte_count" ∷ u32 "duration_sec" ∷ u32 "duration_nsec" ∷ []

abbrev pub bucket_counter : Struct
bucket_counter = u64 "packet_count" ∷ u64 "byte_count" ∷ []

-- 7.3.5.10, struct ofp_group_desc
abbrev pub group_desc : Struct
group_desc = u16 "length" ∷ u8 "type" ∷ pad 1 ∷ u32 "group_id" ∷ []

-- 7.3.5.11, struct ofp_group_features; four of each, by the types of groups
abbrev pub group_features : Struct
group_features =
    u32 "types" ∷ u32 "capabilities" ∷ u32 "max_groups" ∷ u32 "max_groups" ∷ u32 "max_groups" ∷ u32 "max_groups"
    ∷ u32 "actions" ∷ u32 "actions" ∷ u32 "actions" ∷ u32 "actions" ∷ []

-- 7.3.7, struct ofp_packet_out
abbrev pub packet_out : Struct
packet_out = u32 "buffer_id" ∷ u32 "in_port" ∷ u16 "actions_len" ∷ pad 6 ∷ []

-- 7.3.9, struct ofp_role_request
abbrev pub role : Struct
role = u32 "role" ∷ pad 4 ∷ u64 "generation_id" ∷ []

-- 7.3.10, struct ofp_async_config: each mask first for a master or equal controller, then for a slave
abbrev pub async_config : Struct
async_config = u32 "packet_in_mask" ∷ u32 "packet_in_mask" ∷ u32 "port_status_mask" ∷ u32 "port_status_mask" ∷ u32 "flow_removed_mask" ∷ u32 "flow_removed_mask" ∷ []

-- 7.4.1, struct ofp_packet_in
abbrev pub packet_in : Struct
packet_in = u32 "buffer_id" ∷ u16 "total_len" ∷ u8 "reason" ∷ u8 "table_id" ∷ u64 "cookie" ∷ []

-- 7.4.2, struct ofp_flow_removed
abbrev pub flow_removed : Struct
flow_removed =
    u64 "cookie" ∷ u16 "priority" ∷ u8 "reason" ∷ u8 "table_id" ∷ u32 "duration_sec" ∷ u32 "duration_nsec" ∷ u16 "idle_timeout" ∷ u16 "hard_timeout"
    ∷ u64 "packet_count" ∷ u64 "byte_count" ∷ []

-- 7.4.3, struct ofp_port_status
abbrev pub port_status : Struct
port_status = u8 "reason" ∷ pad 7 ∷ port

-- 7.4.4, struct ofp_error_msg
abbrev pub error_msg : Struct
error_msg = u16 "type" ∷ u16 "code" ∷ []

-- 7.5.1, struct ofp_hello_elem_header, and ofp_hello_elem_versionbitmap with one bitmap
abbrev pub hello_elem : Struct
hello_elem = u16 "type" ∷ u16 "length" ∷ []

abbrev pub hello_elem_versionbitmap : Struct
hello_elem_versionbitmap = hello_elem ++ u32 "bitmaps" ∷ []
