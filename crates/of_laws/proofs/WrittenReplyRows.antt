-- Rows of entries, tables and ports that are written are encoded.
use Rattle.std.proofs.Common.{◌≡◌, ◌≤◌, ◌<◌, ◌^◌, ℕ, suc, ◌+◌, ◌*◌, List, [], ◌∷◌, ◌++◌, length, refl, ap, arith}
use Rattle.std.{specs.Prelude.replicate, specs.List.flat_map, specs.List.AllByRecursion as ByRecursion, proofs.lemmas.List.append_assoc, proofs.lemmas.List.length-append}
use Rattle.of_oxm.{specs.Canonical.canonical, proofs.Written.canonical_short, proofs.Written.canonical_encodes}
use Rattle.of_actions.{specs.CanonicalInstructions.canonical_instructions, proofs.InstructionLengths.instructions_short, proofs.InstructionsAgain.instructions_encoded}
use Rattle.of_messages.specs.{Written.port_bits, Written.port_bytes, Written.port_names, declared.port_mod.PortDescription.PortDescription}
use Rattle.of_ports.specs.declared.port.Port.{Port}
use Rattle.of_table.specs.Table.{Table}
use Rattle.of_statistics.{specs.Flows.EntryInTable, specs.Flows.flow_row, specs.Flows.from_tables, specs.Flows.table_row, specs.Ports.described, specs.Ports.port_row, proofs.FlowRows.row_short}
use Rattle.of_laws.specs.ReplyRows.{AreReplyRows, IsFlow, flow_cells, TableStats, IsTable, table_cells, IsPort, port_stats_cells, IsDescribedPort}
use Rattle.of_laws.specs.{Cells.StructCell, Cells.FitsCells, Cells.u16_cell, Told.port_cells, Shown.IsShownFlow, Shown.flow_shown, Shown.port_shown}
use Rattle.of_laws.proofs.{Writings.encoding, Writings.written, WrittenTold.description_text}

-- ---- FLOW

abbrev row_cells : ℕ → EntryInTable → List StructCell
row_cells now l = u16_cell (48 + length (canonical l.entry.flow.fields) + length (canonical_instructions l.entry.flow.instructions)) ∷ flow_cells (flow_shown now l)

flow_text : (now : ℕ) (l : EntryInTable) (rest : List ℕ) → flow_row now l ++ rest ≡ encoding (row_cells now l) ++ (canonical l.entry.flow.fields ++ (canonical_instructions l.entry.flow.instructions ++ rest))
unfolding flow_row
flow_text now l rest = ap (λ (t : List ℕ). encoding (row_cells now l) ++ t) (append_assoc (canonical l.entry.flow.fields) (canonical_instructions l.entry.flow.instructions) rest)

pub flow_written : (now : ℕ) (l : EntryInTable) (rest : List ℕ) → IsShownFlow now l → IsFlow (flow_shown now l) (flow_row now l ++ rest) rest
flow_written now l rest h =
    let fields = canonical l.entry.flow.fields in
    let instructions = canonical_instructions l.entry.flow.instructions in
    let match = h.match in
    let size : 48 + length fields + length instructions < 256 ^ 2 = omega (arith, canonical_short l.entry.flow.fields match.rising, instructions_short l.entry.flow.instructions h.kept) in
    record {
      fields = fields;
      instructions = instructions;
      front = rw (flow_text now l rest) (written (row_cells now l) (fields ++ (instructions ++ rest)) (size, h.numbers));
      encoded = canonical_encodes l.entry.flow.fields match;
      are = instructions_encoded l.table l.entry.flow.instructions h.kept h.fit;
    }

pub flow_short : (now : ℕ) (l : EntryInTable) → IsShownFlow now l → length (flow_row now l) ≤ 65519
flow_short now l h = let match = h.match in row_short now l (canonical_short l.entry.flow.fields match.rising) (instructions_short l.entry.flow.instructions h.kept)

-- ---- TABLE

abbrev shown : ℕ → Table → TableStats
shown k t = record { table = k; active = length t.flows; lookups = t.lookups; matched = t.matched }

table_text : (k : ℕ) (t : Table) (rest : List ℕ) → table_row k t ++ rest ≡ encoding (table_cells (shown k t)) ++ rest
unfolding table_row
table_text k t rest = refl

table_written : (k : ℕ) (t : Table) (rest : List ℕ) → FitsCells (table_cells (shown k t)) → IsTable (shown k t) (table_row k t ++ rest) rest
table_written k t rest fits = rw (table_text k t rest) (written (table_cells (shown k t)) rest fits)

pub tables_written : (k : ℕ) (ts : List Table) → ByRecursion (λ s. FitsCells (table_cells s)) (from_tables (λ k t. shown k t ∷ []) k ts) → AreReplyRows IsTable (from_tables (λ k t. shown k t ∷ []) k ts) (from_tables table_row k ts)
tables_written k [] all = refl
tables_written k (t ∷ ts) all = let rest = from_tables table_row (suc k) ts in (rest, table_written k t rest all.0, tables_written (suc k) ts all.1)

-- ---- PORT_STATS

port_text : (now : ℕ) (p : Port) (rest : List ℕ) → port_row now p ++ rest ≡ encoding (port_stats_cells (port_shown now p)) ++ rest
unfolding port_row
port_text now p rest = refl

pub port_written : (now : ℕ) (p : Port) (rest : List ℕ) → FitsCells (port_stats_cells (port_shown now p)) → IsPort (port_shown now p) (port_row now p ++ rest) rest
port_written now p rest fits = rw (port_text now p rest) (written (port_stats_cells (port_shown now p)) rest fits)

-- ---- PORT_DESC

pub port_described : (p : PortDescription) (rest : List ℕ) → FitsCells (port_cells p) → IsDescribedPort p (port_bytes p ++ rest) rest
port_described p rest fits = rw (description_text p) (written (port_cells p) rest fits)

length_port : (p : PortDescription) → FitsCells (port_cells p) → length (port_bytes p) ≡ 64
unfolding port_names port_bits
length_port p fits =
    let hw : length p.hw ≡ 6 = fits.1.0 in
    let name : length p.name ≡ 16 = fits.1.1.0 in
    omega (arith, hw, name, length-append p.hw (replicate 2 0 ++ p.name), length-append (p.hw ++ (replicate 2 0 ++ p.name)) (port_bits p))

pub length_ports : (ps : List Port) → ByRecursion (λ p. FitsCells (port_cells (described p))) ps → length (flat_map (λ p. port_bytes (described p)) ps) ≡ 64 * length ps
length_ports [] all = refl
length_ports (p ∷ ps) all =
    omega (arith, length_port (described p) all.0, length_ports ps all.1, length-append (port_bytes (described p)) (flat_map (λ p. port_bytes (described p)) ps))
