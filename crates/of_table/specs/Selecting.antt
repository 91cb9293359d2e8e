-- Which entries a command selects, and which are removed at a moment or with a group (OpenFlow 1.3.5, 5.5, 6.4 and 6.5).
use Rattle.std.specs.Prelude.{ℕ, ◌-◌, ◌*◌, ◌/◌, ◌%◌, ◌==◌, ◌&&◌, nat_le, not, Bool, true, false, List, map, filter, Option, Some, None, is_none, unwrap_or, bit_and, if◌then◌else◌}
use Rattle.std.specs.{List.list_any, List.flat_map, Option.option_map, Option.option_map_or, Option.option_to_list}
use Rattle.of_actions.specs.{declared.action.Action.Action, declared.action.Action.TheVariants.Output, declared.action.Action.TheVariants.Group, declared.instruction.Instruction.Instruction}
use Rattle.of_actions.specs.declared.instruction.Instruction.TheVariants.{Apply, Write}
use Rattle.of_oxm.specs.{Relations.covers_match, SameMatch.is_same_match}
use Rattle.of_table.specs.{declared.selection.Selector.Selector, declared.selection.Cause.Cause, declared.selection.Removed.Removed, declared.selection.Target.Target}
use Rattle.of_table.specs.{declared.selection.Target.TheVariants.Port, declared.selection.Target.TheVariants.Group as ToGroup, declared.entry.Entry.Entry, Table.FlowEntry, Table.unless_reset}
use Rattle.of_table.specs.Entries.{entry_of, on_entry}
use Rattle.of_table.specs.declared.selection.Cause.TheVariants as causes
use Rattle.of_wire.specs.declared.reasons.FlowRemovedReason.{FlowRemovedReason}
use Rattle.of_wire.specs.declared.reasons.FlowRemovedReason.TheVariants.{IdleTimeout, HardTimeout, Delete, GroupDelete}

-- ---- which entries a command selects (6.4)

-- the match covers the entry's; or, for a strict command, match and priority are the entry's
abbrev pub is_meant_by : Option ℕ → Selector → FlowEntry → Bool
is_meant_by None w e = covers_match w.fields e.flow.fields
is_meant_by (Some priority) w e = e.flow.priority == priority && is_same_match e.flow.fields w.fields

abbrev pub is_meant : Selector → FlowEntry → Bool
is_meant w e = is_meant_by w.priority w e

-- the cookies agree in the bits of the mask
abbrev pub has_cookie : Selector → FlowEntry → Bool
has_cookie w e = bit_and e.flow.cookie w.cookie_mask == bit_and w.cookie w.cookie_mask

abbrev pub is_output_to : ℕ → Action → Bool
is_output_to port (Output to max_len) = to == port
is_output_to port other = false

-- some action of an APPLY_ACTIONS or a WRITE_ACTIONS is so
abbrev pub has_action : (Action → Bool) → Instruction → Bool
has_action is_so (Apply actions) = list_any is_so actions
has_action is_so (Write actions) = list_any is_so actions
has_action is_so other = false

abbrev pub sends_to_port : ℕ → Instruction → Bool
sends_to_port port = has_action (is_output_to port)

-- no port is asked for, or some action sends to it
abbrev pub passes_port : Selector → FlowEntry → Bool
passes_port w e = option_map_or (λ port. list_any (sends_to_port port) e.flow.instructions) w.out_port true

-- to this group; where none is named, to any
abbrev pub is_to : Option ℕ → Action → Bool
is_to group (Group to) = option_map_or (λ g. to == g) group true
is_to group other = false

-- some action of the entry sends to this group; where none is named, to any
abbrev pub names_group : Option ℕ → FlowEntry → Bool
names_group group e = list_any (has_action (is_to group)) e.flow.instructions

-- what an action may send to
abbrev pub leads_to : Target → Action → Bool
leads_to (Port port) = is_output_to port
leads_to (ToGroup group) = is_to group

-- no group is asked for, or some action sends to it
abbrev pub passes_group : Selector → FlowEntry → Bool
passes_group w e = option_map_or (λ group. names_group (Some group) e) w.out_group true

-- by a MODIFY, which filters by no port and no group
abbrev pub modifies : Selector → FlowEntry → Bool
modifies w e = is_meant w e && has_cookie w e

-- by a DELETE
abbrev pub selects : Selector → FlowEntry → Bool
selects w e = modifies w e && passes_port w e && passes_group w e

-- ---- MODIFY

abbrev pub modified_entry : List Instruction → Bool → FlowEntry → FlowEntry
modified_entry instructions reset e = record e { flow = record e.flow { instructions = instructions }; packets = unless_reset reset e.packets; bytes = unless_reset reset e.bytes }

-- the selected entries get the instructions; all else stays
abbrev pub modified_by : Selector → List Instruction → Bool → FlowEntry → FlowEntry
modified_by w instructions reset e = if modifies w e then modified_entry instructions reset e else e

abbrev pub modified : Selector → List Instruction → Bool → List FlowEntry → List FlowEntry
modified w instructions reset flows = map (modified_by w instructions reset) flows

-- with the numbers, which stay
abbrev pub modified_entries : Selector → List Instruction → Bool → List Entry → List Entry
modified_entries w instructions reset entries = map (on_entry (modified_by w instructions reset)) entries

-- ---- what is removed (5.5 and 6.5)

-- MOMENTS are in nanoseconds

-- one second
abbrev pub second : ℕ
second = 1000000000

-- the whole seconds since a moment, and the nanoseconds beyond them
abbrev pub seconds_since : ℕ → ℕ → ℕ
seconds_since now since = (now - since) / second

abbrev pub nanoseconds_since : ℕ → ℕ → ℕ
nanoseconds_since now since = (now - since) % second

-- this many seconds passed since a moment
abbrev pub has_passed : ℕ → ℕ → ℕ → Bool
has_passed now since seconds = nat_le (second * seconds) (now - since)

-- a timeout of 0 is none
abbrev pub is_over : ℕ → ℕ → ℕ → Bool
is_over now since seconds = not (seconds == 0) && has_passed now since seconds

-- the hard timeout counts from the adding, the idle one from the last packet
abbrev pub timeout_reason : ℕ → FlowEntry → Option FlowRemovedReason
timeout_reason now e =
    if is_over now e.created e.flow.hard_timeout then Some HardTimeout
    else if is_over now (unwrap_or e.last e.created) e.flow.idle_timeout then Some IdleTimeout
    else None

-- why an entry is removed; None where it stays
abbrev pub reason_of : Cause → FlowEntry → Option FlowRemovedReason
reason_of (causes.Delete w) e = if selects w e then Some Delete else None
reason_of (causes.Moment now) e = timeout_reason now e
reason_of (causes.Group group) e = if names_group group e then Some GroupDelete else None

abbrev pub stays : Cause → FlowEntry → Bool
stays cause e = is_none (reason_of cause e)

-- the entries that stay, in order
abbrev pub entries_left : Cause → List FlowEntry → List FlowEntry
entries_left cause flows = filter (stays cause) flows

-- a notice of a removed entry
pub record Notice : Type 0 where
  pub table : ℕ
  pub reason : FlowRemovedReason
  pub entry : FlowEntry

-- given where the entry's flags ask for it (OFPFF_SEND_FLOW_REM)
abbrev pub notice_by : ℕ → FlowEntry → Option FlowRemovedReason → Option Notice
notice_by table e None = None
notice_by table e (Some reason) = if e.flow.flags.send_removed then Some (record { table = table; reason = reason; entry = e }) else None

abbrev pub notices : Cause → ℕ → List FlowEntry → List Notice
notices cause table flows = flat_map (λ e. option_to_list (notice_by table e (reason_of cause e))) flows

-- the entries that stay, with their numbers
abbrev pub kept_of : Cause → List Entry → List Entry
kept_of cause entries = filter (λ e. stays cause (entry_of e)) entries

-- a notice of a removed entry, with its number
pub record NumberedNotice : Type 0 where
  pub table : ℕ
  pub reason : FlowRemovedReason
  pub entry : Entry

abbrev pub numbered_notice : Entry → Notice → NumberedNotice
numbered_notice e n = record { table = n.table; reason = n.reason; entry = e }

abbrev pub told_by : ℕ → Entry → Option FlowRemovedReason → Option NumberedNotice
told_by table e reason = option_map (numbered_notice e) (notice_by table (entry_of e) reason)

abbrev pub numbered_notices : Cause → ℕ → List Entry → List NumberedNotice
numbered_notices cause table entries = flat_map (λ e. option_to_list (told_by table e (reason_of cause (entry_of e)))) entries

-- the notices of a list, with the numbers of the entries and without
abbrev pub numbered_notice_of : Removed → NumberedNotice
numbered_notice_of r = record { table = r.table; reason = r.reason; entry = r.entry.now }

abbrev pub all_told : List Removed → List NumberedNotice
all_told removed = map numbered_notice_of removed

abbrev pub notice_of : Removed → Notice
notice_of r = record { table = r.table; reason = r.reason; entry = entry_of r.entry.now }

abbrev pub notices_of : List Removed → List Notice
notices_of removed = map notice_of removed
