-- A flow table as a reader sees it (OpenFlow 1.3.5, 5.2, 5.3, 5.8 and 6.4): its entries, oldest first, and its counters.
use Rattle.std.specs.Prelude.{ℕ, ◌+◌, ◌%◌, ◌^◌, ◌==◌, ◌&&◌, ◌++◌, Bool, false, not, List, [], ◌∷◌, length, Option, Some, None, zero, suc, filter, find, nat_le, slice_get, if◌then◌else◌}
use Rattle.std.specs.{List.list_any, Option.option_map}
use Rattle.of_wire.specs.declared.limits.TheConstants.{MOST_ENTRIES, OFPFF_NO_BYT_COUNTS, OFPFF_NO_PKT_COUNTS, OFPFF_SEND_FLOW_REM}
use Rattle.of_layers.specs.declared.field.Field.{Field}
use Rattle.of_oxm.specs.{Relations.overlaps_match, SameMatch.is_same_match}
use Rattle.of_classifier.specs.{declared.Row.Row, Rows.made_row, Winner.winner_of, Winner.winner_number}
use Rattle.of_table.specs.{declared.flow.Flow.Flow, declared.flow.FlowFlags.FlowFlags, declared.table_fault.TableFault.TableFault}
use Rattle.of_table.specs.declared.table_fault.TableFault.TheVariants.{Overlap, Full}

-- an entry (5.2): a flow, how many packets and bytes hit it (5.8), and the moments at which it was added and at which a packet hit it last, in nanoseconds
pub record FlowEntry : Type 0 where
  pub flow : Flow
  pub packets : ℕ
  pub bytes : ℕ
  pub created : ℕ
  pub last : Option ℕ

-- a table: how many packets were looked up and how many hit an entry (5.8), and its entries
pub record Table : Type 0 where
  pub lookups : ℕ
  pub matched : ℕ
  pub flows : List FlowEntry

abbrev pub empty_table : Table
empty_table = record { lookups = 0; matched = 0; flows = [] }

-- ---- adding (6.4)

-- the entry has the flow's priority and match
abbrev pub is_same : Flow → FlowEntry → Bool
is_same flow e = e.flow.priority == flow.priority && is_same_match e.flow.fields flow.fields

-- an entry does not keep the flags that concern its adding alone
abbrev pub kept_flags : FlowFlags → FlowFlags
kept_flags flags = record flags { check_overlap = false; reset_counts = false }

-- the number of flags (7.3.4.1)
abbrev pub bit : ℕ → Bool → ℕ
bit value on = if on then value else 0

-- an entry keeps no other
abbrev pub flags_number : FlowFlags → ℕ
flags_number f = bit OFPFF_SEND_FLOW_REM f.send_removed + bit OFPFF_NO_PKT_COUNTS f.no_packet_counts + bit OFPFF_NO_BYT_COUNTS f.no_byte_counts

abbrev pub kept_flow : Flow → Flow
kept_flow flow = record flow { flags = kept_flags flow.flags }

-- counters begin at 0 again where that is asked for
abbrev pub unless_reset : Bool → ℕ → ℕ
unless_reset reset counter = if reset then 0 else counter

-- the entry of a flow that is added now: it keeps the counters of the entry that it replaces, where there is one
abbrev pub with_flow : ℕ → Flow → Option FlowEntry → FlowEntry
with_flow now flow None = record { flow = kept_flow flow; packets = 0; bytes = 0; created = now; last = None }
with_flow now flow (Some e) = record { flow = kept_flow flow; packets = unless_reset flow.flags.reset_counts e.packets; bytes = unless_reset flow.flags.reset_counts e.bytes; created = now; last = None }

-- the entries of another priority or match, in their order, and then the new one
abbrev pub added : ℕ → Flow → List FlowEntry → List FlowEntry
added now flow flows = filter (λ e. not (is_same flow e)) flows ++ with_flow now flow (find (is_same flow) flows) ∷ []

-- the flow asks to be checked, and an entry of its priority overlaps it
abbrev pub is_overlapped : Flow → List FlowEntry → Bool
is_overlapped flow flows = flow.flags.check_overlap && list_any (λ e. e.flow.priority == flow.priority && overlaps_match e.flow.fields flow.fields) flows

-- the flow would be one more than 4,096 entries
abbrev pub is_full : Flow → List FlowEntry → Bool
is_full flow flows = not (list_any (is_same flow) flows) && nat_le MOST_ENTRIES (length flows)

-- why a flow is not added, where it is not
abbrev pub add_flow_fault : Flow → List FlowEntry → Option TableFault
add_flow_fault flow flows = if is_overlapped flow flows then Some Overlap else if is_full flow flows then Some Full else None

-- ---- matching (5.3)

-- what a classifier sees of entries: it names them by their places, from k on
abbrev pub rows_from : ℕ → List FlowEntry → List Row
rows_from k [] = []
rows_from k (e ∷ flows) = made_row k e.flow.priority e.flow.fields ∷ rows_from (suc k) flows

-- the place, from 0, of the entry that a packet hits: the winner of a classifier
abbrev pub winner_place : (Field → Option ℕ) → List FlowEntry → Option ℕ
winner_place map flows = winner_number (winner_of (rows_from 0 flows) map)

-- the flow of the entry at a place
abbrev pub flow_at : ℕ → List FlowEntry → Option Flow
flow_at place flows = option_map (λ e. e.flow) (slice_get flows place)

-- ---- counting (5.8)

-- a counter plus n, where this is counted; it wraps
abbrev pub incremented : Bool → ℕ → ℕ → ℕ
incremented uncounted counter n = if uncounted then counter else (counter + n) % 2 ^ 64

-- one more packet of this many bytes, now
abbrev pub counted_entry : ℕ → ℕ → FlowEntry → FlowEntry
counted_entry now bytes e = record e { packets = incremented e.flow.flags.no_packet_counts e.packets 1; bytes = incremented e.flow.flags.no_byte_counts e.bytes bytes; last = Some now }

-- at the entry at a place
abbrev pub counted_at : ℕ → ℕ → ℕ → List FlowEntry → List FlowEntry
counted_at now place bytes [] = []
counted_at now zero bytes (e ∷ flows) = counted_entry now bytes e ∷ flows
counted_at now (suc place) bytes (e ∷ flows) = e ∷ counted_at now place bytes flows

-- one more packet was looked up
abbrev pub looked : Table → Table
looked t = record t { lookups = (t.lookups + 1) % 2 ^ 64 }

-- a packet of this many bytes hit the entry at a place, now
abbrev pub matched_at : ℕ → ℕ → ℕ → Table → Table
matched_at now place bytes t = record t { matched = (t.matched + 1) % 2 ^ 64; flows = counted_at now place bytes t.flows }
