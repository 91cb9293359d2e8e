-- FLOW, AGGREGATE and TABLE (OpenFlow 1.3.5, 7.3.5.2, 7.3.5.3 and 7.3.5.4): statistics of entries and tables.
use Rattle.std.specs.Prelude.{ℕ, suc, ◌+◌, ◌%◌, ◌^◌, List, [], ◌∷◌, ◌++◌, length, map, filter, take, drop, if◌then◌else◌}
use Rattle.std.specs.List.{sum_by}
use Rattle.of_formats.specs.Structs.{size, written}
use Rattle.of_formats.specs.Tables as tables
use Rattle.of_oxm.specs.Canonical.{canonical}
use Rattle.of_actions.specs.CanonicalInstructions.{canonical_instructions}
use Rattle.of_table.specs.{declared.selection.Selector.Selector, Table.FlowEntry, Table.Table, Table.flags_number, Tables.Tables, Tables.is_in, Selecting.selects, Selecting.nanoseconds_since}
use Rattle.of_statistics.specs.{declared.aggregate.Totals.Totals, Replies.reply, Replies.replies, Durations.seconds}

-- what is listed for each table by its number, from number k on
abbrev pub from_tables : {X : Type 0} → (ℕ → Table → List X) → ℕ → List Table → List X
from_tables f k [] = []
from_tables f k (t ∷ ts) = f k t ++ from_tables f (suc k) ts

-- ---- the entries that a request asks for: those that a DELETE would select, by table and then by age

-- an entry, and the number of its table
pub record EntryInTable : Type 0 where
  pub table : ℕ
  pub entry : FlowEntry

abbrev pub listed_in : Selector → ℕ → Table → List EntryInTable
listed_in w k t = if is_in w.table k then map (λ e. record { table = k; entry = e }) (filter (selects w) t.flows) else []

abbrev pub entries_with_tables : Selector → Tables → List EntryInTable
entries_with_tables w ts = from_tables (listed_in w) 0 ts.tables

-- ---- FLOW

-- the length of the whole row
abbrev pub flow_row_size : FlowEntry → ℕ
flow_row_size e = size tables.flow_stats + length (canonical e.flow.fields) + length (canonical_instructions e.flow.instructions)

unfoldable pub flow_row : ℕ → EntryInTable → List ℕ
flow_row now l =
    written tables.flow_stats
    (flow_row_size l.entry ∷ l.table ∷ seconds now l.entry.created ∷ nanoseconds_since now l.entry.created ∷ l.entry.flow.priority
    ∷ l.entry.flow.idle_timeout ∷ l.entry.flow.hard_timeout ∷ flags_number l.entry.flow.flags ∷ l.entry.flow.cookie ∷ l.entry.packets ∷ l.entry.bytes ∷ [])
    ++ (canonical l.entry.flow.fields
    ++ canonical_instructions l.entry.flow.instructions)

-- for contracts inside this crate: the fields from the durations to the flags, and cookie and counters
unfoldable pub flow_times : ℕ → FlowEntry → List ℕ
flow_times now e =
    written (take 7 (drop 3 tables.flow_stats))
    (seconds now e.created ∷ nanoseconds_since now e.created ∷ e.flow.priority ∷ e.flow.idle_timeout ∷ e.flow.hard_timeout ∷ flags_number e.flow.flags ∷ [])

unfoldable pub flow_counts : FlowEntry → List ℕ
flow_counts e = written (drop 10 tables.flow_stats) (e.flow.cookie ∷ e.packets ∷ e.bytes ∷ [])

abbrev pub flow_statistics_rows : Selector → Tables → List (List ℕ)
flow_statistics_rows w ts = map (flow_row ts.latest) (entries_with_tables w ts)

-- those of one entry of a table, and of several
abbrev pub rows_of_one : ℕ → Selector → ℕ → FlowEntry → List (List ℕ)
rows_of_one now w k e = if selects w e then flow_row now (record { table = k; entry = e }) ∷ [] else []

abbrev pub rows_of_entries : ℕ → Selector → ℕ → List FlowEntry → List (List ℕ)
rows_of_entries now w k flows = map (flow_row now) (map (λ e. record { table = k; entry = e }) (filter (selects w) flows))

abbrev pub flow_bytes : ℕ → Selector → Tables → List (List ℕ)
flow_bytes xid w ts = replies xid 1 (flow_statistics_rows w ts)

-- ---- AGGREGATE

abbrev pub asked : Selector → Tables → List FlowEntry
asked w ts = map (λ l. l.entry) (entries_with_tables w ts)

-- the sums of the counters of entries, which wrap, and how many entries there are
abbrev pub totals : List FlowEntry → Totals
totals es = record { packets = sum_by (λ e. e.packets) es % 2 ^ 64; bytes = sum_by (λ e. e.bytes) es % 2 ^ 64; flows = length es }

unfoldable pub aggregate : Totals → List ℕ
aggregate t = written tables.aggregate_stats (t.packets ∷ t.bytes ∷ t.flows ∷ [])

abbrev pub aggregate_bytes : ℕ → Selector → Tables → List ℕ
aggregate_bytes xid w ts = reply xid 2 0 (aggregate (totals (asked w ts)))

-- ---- TABLE

unfoldable pub table_row : ℕ → Table → List ℕ
table_row k t = written tables.table_stats (k ∷ length t.flows ∷ t.lookups ∷ t.matched ∷ [])

-- one after the other
abbrev pub table_rows : Tables → List ℕ
table_rows ts = from_tables table_row 0 ts.tables

abbrev pub table_bytes : ℕ → Tables → List ℕ
table_bytes xid ts = reply xid 3 0 (table_rows ts)
