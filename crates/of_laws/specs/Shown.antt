-- What the rows of replies show of entries, tables, ports and groups.
use Rattle.std.specs.Prelude.{◌≡◌, ◌<◌, ◌≤◌, ℕ, ◌%◌, ◌^◌, true, List, [], ◌∷◌, length, map}
use Rattle.std.specs.List.{list_all}
use Rattle.of_oxm.specs.NormalForm.{IsMatch}
use Rattle.of_actions.specs.InstructionLists.{are_for, are_kept}
use Rattle.of_groups.specs.{Buckets.are_fit, declared.group.Group.Group}
use Rattle.of_messages.specs.{CanonicalGroups.as_written, CanonicalGroups.has_numbers, declared.group_mod.NewGroup.NewGroup}
use Rattle.of_ports.specs.declared.port.Port.{Port}
use Rattle.of_table.specs.{Selecting.seconds_since, Selecting.nanoseconds_since, Table.FlowEntry, Table.flags_number, Tables.Tables}
use Rattle.of_statistics.specs.{Flows.EntryInTable, Flows.from_tables, Flows.totals, Groups.references}
use Rattle.of_laws.specs.ReplyRows.{FlowStats, flow_cells, AggregateStats, TableStats, PortStats, GroupStats, group_stats_cells, bucket_stats_cells}
use Rattle.of_laws.specs.Cells.{FitsCells}

-- an entry at a moment
abbrev pub flow_shown : ℕ → EntryInTable → FlowStats
flow_shown now l = record {
  table = l.table;
  duration_sec = seconds_since now l.entry.created % 2 ^ 32;
  duration_nsec = nanoseconds_since now l.entry.created;
  priority = l.entry.flow.priority;
  idle_timeout = l.entry.flow.idle_timeout;
  hard_timeout = l.entry.flow.hard_timeout;
  flags = flags_number l.entry.flow.flags;
  cookie = l.entry.flow.cookie;
  packets = l.entry.packets;
  bytes = l.entry.bytes;
  fields = l.entry.flow.fields;
  instructions = l.entry.flow.instructions;
}

-- its numbers fit their bytes, its match is in its normal form, and its instructions are such as an entry of the table has
pub record IsShownFlow (now : ℕ) (l : EntryInTable) : Type 0 where
  pub numbers : FitsCells (flow_cells (flow_shown now l))
  pub match : IsMatch l.entry.flow.fields
  pub kept : are_kept l.entry.flow.instructions ≡ true
  pub fit : are_for l.table l.entry.flow.instructions ≡ true

-- what entries have counted in all
abbrev pub aggregate_shown : List FlowEntry → AggregateStats
aggregate_shown es = record { packets = (totals es).packets; bytes = (totals es).bytes; flows = (totals es).flows }

-- the tables by their numbers
abbrev pub tables_shown : Tables → List TableStats
tables_shown ts = from_tables (λ k t. record { table = k; active = length t.flows; lookups = t.lookups; matched = t.matched } ∷ []) 0 ts.tables

abbrev pub port_shown : ℕ → Port → PortStats
port_shown now p = record { port = p.number; counters = p.counters; duration_sec = seconds_since now p.created % 2 ^ 32; duration_nsec = nanoseconds_since now p.created }

-- a group among these, and with these tables
abbrev pub group_shown : List Group → Tables → Group → GroupStats
group_shown groups ts g = record {
  id = g.id;
  references = references g.id groups ts;
  packets = g.packets;
  bytes = g.bytes;
  duration_sec = seconds_since ts.latest g.created % 2 ^ 32;
  duration_nsec = nanoseconds_since ts.latest g.created;
  buckets = map (λ b. record { packets = b.packets; bytes = b.bytes }) g.buckets;
}

-- its numbers fit their bytes, and it has at most as many buckets as this switch takes
pub record IsShownGroup (s : GroupStats) : Type 0 where
  pub numbers : FitsCells (group_stats_cells s)
  pub counters : FitsCells (bucket_stats_cells s.buckets)
  pub few : length s.buckets ≤ 16

-- what is described of a group: all but what it counts
abbrev pub group_described : Group → NewGroup
group_described g = as_written (record { id = g.id; kind = g.kind; buckets = g.buckets })

-- its numbers fit their bytes, and its buckets are such as a group of this switch has
pub record IsDescribable (g : Group) : Type 0 where
  pub id : g.id < 256 ^ 4
  pub numbers : list_all has_numbers g.buckets ≡ true
  pub fit : are_fit g.buckets ≡ true
