-- What a FLOW_MOD does to the flow tables (OpenFlow 1.3.5, 6.4 and 7.3.4.1), and the notices of removed entries (7.4.2).
use Rattle.std.specs.Prelude.{ℕ, ◌%◌, ◌^◌, ◌==◌, ◌&&◌, bit_and, Bool, true, false, not, List, [], ◌∷◌, map, filter, Option, Some, None, is_none, if◌then◌else◌}
use Rattle.std.specs.{List.list_any, Option.option_map}
use Rattle.of_wire.specs.declared.limits.TheConstants.{OFPFF_CHECK_OVERLAP, OFPFF_NO_BYT_COUNTS, OFPFF_NO_PKT_COUNTS, OFPFF_RESET_COUNTS, OFPFF_SEND_FLOW_REM, OFPTT_ALL, OFPP_ANY, OFP_NO_BUFFER}
use Rattle.of_wire.specs.declared.codes.TheConstants.{OFPBAC_BAD_OUT_GROUP, OFPBRC_BUFFER_UNKNOWN, OFPFMFC_OVERLAP, OFPFMFC_TABLE_FULL}
use Rattle.of_wire.specs.{Reasons.flow_removed_number, declared.code.Code.Code}
use Rattle.of_datapath.specs.{Buffers.Held, Buffers.HeldFrames, Buffers.held, Buffers.used, declared.control.AsyncConfig.AsyncConfig, Control.lets_pass, declared.effect.Effect.Effect}
use Rattle.of_datapath.specs.declared.effect.Effect.TheVariants.{Answer}
use Rattle.of_messages.specs.{declared.message.FlowMod.FlowMod, declared.message.FlowModCommand.FlowModCommand}
use Rattle.of_messages.specs.declared.message.FlowModCommand.TheVariants.{Add, Modify, Delete}
use Rattle.of_messages.specs.{declared.message.FlowRemoved.FlowRemoved, Messages.is_delete, Written.flow_removed_bytes, declared.message.PacketOut.PacketOut, declared.message.PacketData.PacketData}
use Rattle.of_messages.specs.declared.message.PacketData.TheVariants.{Buffered, Frame}
use Rattle.of_table.specs.Tables.{Tables, table_at, added_to, modified_in, left_in, notices_in}
use Rattle.of_table.specs.{declared.flow.Flow.Flow, declared.flow.FlowFlags.FlowFlags, declared.selection.Selector.Selector, Table.is_overlapped, Table.is_full}
use Rattle.of_table.specs.Selecting.{Notice, has_action, seconds_since, nanoseconds_since}
use Rattle.of_table.specs.declared.selection.Cause.TheVariants as cause
use Rattle.of_actions.specs.{declared.action.Action.Action, declared.instruction.Instruction.Instruction}
use Rattle.of_groups.specs.{declared.group.Group.Group, Buckets.sends, Faults.is_absent}

-- ---- the flow, and the entries that a command selects

-- the flags of a FLOW_MOD, bit by bit
abbrev pub has_flag : ℕ → ℕ → Bool
has_flag flags flag = not (bit_and flags flag == 0)

abbrev pub flags_of : ℕ → FlowFlags
flags_of flags = record {
  send_removed = has_flag flags OFPFF_SEND_FLOW_REM;
  check_overlap = has_flag flags OFPFF_CHECK_OVERLAP;
  reset_counts = has_flag flags OFPFF_RESET_COUNTS;
  no_packet_counts = has_flag flags OFPFF_NO_PKT_COUNTS;
  no_byte_counts = has_flag flags OFPFF_NO_BYT_COUNTS;
}

abbrev pub flow_of : FlowMod → Flow
flow_of m = record { fields = m.fields; priority = m.priority; cookie = m.cookie; idle_timeout = m.idle_timeout; hard_timeout = m.hard_timeout; flags = flags_of m.flags; instructions = m.instructions }

abbrev pub is_add : FlowModCommand → Bool
is_add Add = true
is_add other = false

abbrev pub is_strict : FlowModCommand → Bool
is_strict Add = false
is_strict (Modify strict) = strict
is_strict (Delete strict) = strict

-- a number that may mean any: OFPTT_ALL, OFPP_ANY and OFPG_ANY are all ones
abbrev pub unless_any : ℕ → ℕ → Option ℕ
unless_any any n = if n == any then None else Some n

-- DELETE alone filters by out_port and out_group
abbrev pub out_of : FlowModCommand → ℕ → Option ℕ
out_of command n = if is_delete command then unless_any OFPP_ANY n else None

abbrev pub selector_of : FlowMod → Selector
selector_of m = record {
  table = unless_any OFPTT_ALL m.table;
  fields = m.fields;
  priority = if is_strict m.command then Some m.priority else None;
  cookie = m.cookie;
  cookie_mask = m.cookie_mask;
  out_port = out_of m.command m.out_port;
  out_group = out_of m.command m.out_group;
}

-- ---- what is refused, in order

-- an action sends the packet to a group that does not exist
abbrev pub is_to_absent_group : List Group → Action → Bool
is_to_absent_group groups = sends (is_absent groups)

-- some action of the instructions does
abbrev pub names_absent_group : List Group → List Instruction → Bool
names_absent_group groups instructions = list_any (has_action (is_to_absent_group groups)) instructions

-- of an ADD: OVERLAP with an entry (5/3), TABLE_FULL (5/1)
abbrev pub add_refusals : FlowMod → Tables → List (Bool × Code)
add_refusals m ts =
    (is_add m.command && is_overlapped (flow_of m) (table_at m.table ts).flows, OFPFMFC_OVERLAP)
    ∷ (is_add m.command && is_full (flow_of m) (table_at m.table ts).flows, OFPFMFC_TABLE_FULL)
    ∷ []

-- an action names a group that does not exist (2/9); the buffer is neither OFP_NO_BUFFER nor the id of a held frame (1/8); DELETE looks at neither
abbrev pub flow_mod_refusals : FlowMod → Tables → List Group → HeldFrames → List (Bool × Code)
flow_mod_refusals m ts groups b =
    (not (is_delete m.command) && names_absent_group groups m.instructions, OFPBAC_BAD_OUT_GROUP)
    ∷ (not (is_delete m.command) && not (m.buffer == OFP_NO_BUFFER) && is_none (held m.buffer b), OFPBRC_BUFFER_UNKNOWN)
    ∷ add_refusals m ts

-- ---- what is done

-- the tables after a command
abbrev pub commanded_by : FlowModCommand → FlowMod → Tables → Tables
commanded_by Add m ts = added_to m.table (flow_of m) ts
commanded_by (Modify strict) m ts = modified_in (selector_of m) m.instructions (has_flag m.flags OFPFF_RESET_COUNTS) ts
commanded_by (Delete strict) m ts = left_in (cause.Delete (selector_of m)) ts

abbrev pub commanded : FlowMod → Tables → Tables
commanded m ts = commanded_by m.command m ts

-- the notices that a command gives
abbrev pub command_notices : FlowMod → Tables → List Notice
command_notices m ts = if is_delete m.command then notices_in (cause.Delete (selector_of m)) ts else []

-- ---- FLOW_REMOVED

-- of an entry that is removed now; the seconds are cut to 32 bits
abbrev pub removed_of : ℕ → Notice → FlowRemoved
removed_of now n = record {
  cookie = n.entry.flow.cookie;
  priority = n.entry.flow.priority;
  reason = n.reason;
  table = n.table;
  duration_sec = seconds_since now n.entry.created % 2 ^ 32;
  duration_nsec = nanoseconds_since now n.entry.created;
  idle_timeout = n.entry.flow.idle_timeout;
  hard_timeout = n.entry.flow.hard_timeout;
  packets = n.entry.packets;
  bytes = n.entry.bytes;
}

-- an asynchronous message has the transaction id 0
abbrev pub notice_effect : ℕ → Notice → Effect
notice_effect now n = Answer (flow_removed_bytes 0 (removed_of now n) n.entry.flow.fields)

abbrev pub is_notice_admitted : AsyncConfig → Notice → Bool
is_notice_admitted heard n = lets_pass heard.flow_removed (2 ^ flow_removed_number n.reason)

-- of those notices that the controller's mask lets pass
abbrev pub notice_effects : AsyncConfig → ℕ → List Notice → List Effect
notice_effects heard now ns = map (notice_effect now) (filter (is_notice_admitted heard) ns)

-- ---- PACKET_OUT (7.3.7)

-- its packet is a held frame, whose id it has, or a frame of its own
abbrev pub packet_out_frame : PacketData → HeldFrames → Option (List ℕ)
packet_out_frame (Buffered id) b = option_map (λ h. h.frame) (held id b)
packet_out_frame (Frame bytes) b = Some bytes

-- a held frame is used
abbrev pub without_packet : PacketData → HeldFrames → HeldFrames
without_packet (Buffered id) b = used id b
without_packet (Frame bytes) b = b

-- no frame is held under that id (1/8); an action names a group that does not exist (2/9)
abbrev pub packet_out_refusals : PacketOut → List Group → HeldFrames → List (Bool × Code)
packet_out_refusals m groups b =
    (is_none (packet_out_frame m.packet b), OFPBRC_BUFFER_UNKNOWN)
    ∷ (list_any (is_to_absent_group groups) m.actions, OFPBAC_BAD_OUT_GROUP)
    ∷ []

-- ---- FLOW_MOD with a held frame (7.3.4.1: buffer_id)

-- DELETE does not look at the id
abbrev pub frame_named : FlowMod → HeldFrames → Option Held
frame_named m b = if is_delete m.command then None else held m.buffer b
