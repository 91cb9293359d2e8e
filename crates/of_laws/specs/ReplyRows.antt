-- The rows of replies to multipart requests: which bytes encode which row, whatever follows (OpenFlow 1.3.5, 7.3.5).
use Rattle.std.specs.Prelude.{◌≡◌, ℕ, ◌+◌, ◌*◌, List, [], ◌∷◌, ◌++◌, length, drop}
use Rattle.of_groups.specs.Groups.{kind_number}
use Rattle.of_oxm.specs.{declared.match_field.MatchField.MatchField, MatchGrammar.EncodesMatch}
use Rattle.of_actions.specs.{declared.instruction.Instruction.Instruction, Instructions.EncodesInstructions}
use Rattle.of_ports.specs.declared.counters.PortCounters.{PortCounters}
use Rattle.of_messages.specs.{declared.group_mod.NewGroup.NewGroup, declared.port_mod.PortDescription.PortDescription}
use Rattle.of_laws.specs.{Buckets.AreBuckets, Cells.StructCell, Cells.u16_cell, Cells.Begins, StructCells.cells_of, Told.port_cells}
use Rattle.of_formats.specs.Tables as tables

-- bytes are these rows, one after the other
abbrev pub AreReplyRows : {X : Type 0} → (X → List ℕ → List ℕ → Type 0) → List X → List ℕ → Type 0
AreReplyRows IsRow [] bytes = bytes ≡ []
AreReplyRows IsRow (x ∷ xs) bytes = (rest : List ℕ) × IsRow x bytes rest × AreReplyRows IsRow xs rest

-- FLOW (7.3.5.2, struct ofp_flow_stats): an entry, how long it has existed, and what it has counted

pub record FlowStats : Type 0 where
  pub table : ℕ
  pub duration_sec : ℕ
  pub duration_nsec : ℕ
  pub priority : ℕ
  pub idle_timeout : ℕ
  pub hard_timeout : ℕ
  pub flags : ℕ
  pub cookie : ℕ
  pub packets : ℕ
  pub bytes : ℕ
  pub fields : List MatchField
  pub instructions : List Instruction

-- after the length of the row
abbrev pub flow_cells : FlowStats → List StructCell
flow_cells s =
    cells_of (drop 1 tables.flow_stats)
    (s.table ∷ s.duration_sec ∷ s.duration_nsec ∷ s.priority ∷ s.idle_timeout ∷ s.hard_timeout ∷ s.flags ∷ s.cookie ∷ s.packets ∷ s.bytes ∷ []) []

-- the length of the whole row, which is 48 bytes, the match and the instructions
pub record IsFlow (s : FlowStats) (bytes rest : List ℕ) : Type 0 where
  pub fields : List ℕ
  pub instructions : List ℕ
  pub front : Begins (u16_cell (48 + length fields + length instructions) ∷ flow_cells s) bytes (fields ++ (instructions ++ rest))
  pub encoded : EncodesMatch fields s.fields
  pub are : EncodesInstructions s.table instructions s.instructions

-- AGGREGATE (7.3.5.3, struct ofp_aggregate_stats_reply): what entries have counted in all, and how many they are

pub record AggregateStats : Type 0 where
  pub packets : ℕ
  pub bytes : ℕ
  pub flows : ℕ

-- TABLE (7.3.5.4, struct ofp_table_stats): how many entries a table has, and what it has counted

pub record TableStats : Type 0 where
  pub table : ℕ
  pub active : ℕ
  pub lookups : ℕ
  pub matched : ℕ

abbrev pub table_cells : TableStats → List StructCell
table_cells s = cells_of tables.table_stats (s.table ∷ s.active ∷ s.lookups ∷ s.matched ∷ []) []

abbrev pub IsTable : TableStats → List ℕ → List ℕ → Type 0
IsTable s = Begins (table_cells s)

-- PORT_STATS (7.3.5.6, struct ofp_port_stats): what a port has counted, and how long it has existed

pub record PortStats : Type 0 where
  pub port : ℕ
  pub counters : PortCounters
  pub duration_sec : ℕ
  pub duration_nsec : ℕ

-- this switch has no transmit errors, and reports no kinds of errors (frames, overruns, CRC) and no collisions
abbrev pub port_stats_cells : PortStats → List StructCell
port_stats_cells s =
    cells_of tables.port_stats
    (s.port ∷ s.counters.rx_packets ∷ s.counters.tx_packets ∷ s.counters.rx_bytes ∷ s.counters.tx_bytes ∷ s.counters.rx_dropped ∷ s.counters.tx_dropped
    ∷ s.counters.rx_errors ∷ 0 ∷ 0 ∷ 0 ∷ 0 ∷ 0 ∷ s.duration_sec ∷ s.duration_nsec ∷ []) []

abbrev pub IsPort : PortStats → List ℕ → List ℕ → Type 0
IsPort s = Begins (port_stats_cells s)

-- GROUP (7.3.5.9, struct ofp_group_stats): how many entries and groups send to a group, what it has counted, and its buckets

pub record BucketStats : Type 0 where
  pub packets : ℕ
  pub bytes : ℕ

pub record GroupStats : Type 0 where
  pub id : ℕ
  pub references : ℕ
  pub packets : ℕ
  pub bytes : ℕ
  pub duration_sec : ℕ
  pub duration_nsec : ℕ
  pub buckets : List BucketStats

-- after the length of the row
abbrev pub group_stats_cells : GroupStats → List StructCell
group_stats_cells s = cells_of (drop 1 tables.group_stats) (s.id ∷ s.references ∷ s.packets ∷ s.bytes ∷ s.duration_sec ∷ s.duration_nsec ∷ []) []

-- struct ofp_bucket_counter
abbrev pub bucket_stats_cells : List BucketStats → List StructCell
bucket_stats_cells [] = []
bucket_stats_cells (b ∷ bs) = cells_of tables.bucket_counter (b.packets ∷ b.bytes ∷ []) [] ++ bucket_stats_cells bs

-- the length of the whole row, which is 40 bytes, and 16 for each bucket
pub record IsGroupRow (s : GroupStats) (bytes rest : List ℕ) : Type 0 where
  pub buckets : List ℕ
  pub front : Begins (u16_cell (40 + 16 * length s.buckets) ∷ group_stats_cells s) bytes buckets
  pub behind : Begins (bucket_stats_cells s.buckets) buckets rest

-- GROUP_DESC (7.3.5.10, struct ofp_group_desc_stats): what a group is

-- after the length of the row
abbrev pub group_description_cells : NewGroup → List StructCell
group_description_cells g = cells_of (drop 1 tables.group_desc) (kind_number g.kind ∷ g.id ∷ []) []

-- the length of the whole row, which is 8 bytes, and the buckets
pub record IsDescribed (g : NewGroup) (bytes rest : List ℕ) : Type 0 where
  pub buckets : List ℕ
  pub front : Begins (u16_cell (8 + length buckets) ∷ group_description_cells g) bytes (buckets ++ rest)
  pub are : AreBuckets g.buckets buckets

-- PORT_DESC (7.3.5.7, struct ofp_port)

abbrev pub IsDescribedPort : PortDescription → List ℕ → List ℕ → Type 0
IsDescribedPort p = Begins (port_cells p)
