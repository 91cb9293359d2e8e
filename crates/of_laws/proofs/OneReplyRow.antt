-- No bytes begin with two rows, of entries, of tables or of ports; and so no bytes are two lists of rows.
use Rattle.std.proofs.Common.{◌≡◌, ◌<◌, ℕ, ◌+◌, ◌-◌, List, [], ◌∷◌, ◌++◌, length, take, drop, Result, Ok, Err, refl, sym, ap, subst, ◌∙◌, arith}
use Rattle.std.{specs.Prelude.slice_index, proofs.lemmas.List.append_assoc, proofs.lemmas.List.length-append, proofs.lemmas.List.take_at, proofs.lemmas.List.drop_at}
use Rattle.byteorder.specs.Endian.{big_number}
use Rattle.of_wire.specs.declared.code.Code.{Code}
use Rattle.of_oxm.specs.{declared.match_field.MatchField.MatchField, MatchGrammar.EncodesMatch, MatchReading.match_of}
use Rattle.of_actions.{specs.declared.instruction.Instruction.Instruction, specs.InstructionReading.instructions_in_bytes, specs.Instructions.EncodesInstructions, proofs.Computed.is_computed}
use Rattle.of_messages.specs.declared.port_mod.PortDescription.{PortDescription}
use Rattle.of_ports.specs.declared.counters.PortCounters.{PortCounters}
use Rattle.of_laws.specs.ReplyRows.{AreReplyRows, FlowStats, IsFlow, flow_cells, TableStats, IsTable, table_cells, PortStats, IsPort, port_stats_cells, IsDescribedPort}
use Rattle.of_laws.{specs.Cells.StructCell, specs.Cells.u16_cell, specs.Told.port_cells, proofs.MatchTails.fields_in, proofs.MatchTails.match_only, proofs.MatchTails.size_in}
use Rattle.of_laws.proofs.{Places.says, Places.size, Places.rest_is, Places.size_is, OneTold.same_description}

-- ---- rows of one kind

-- the row, and what follows
abbrev pub IsOne : {X : Type 0} → (X → List ℕ → List ℕ → Type 0) → Type 0
IsOne {X} IsRow = (x y : X) (bytes rest others : List ℕ) → IsRow x bytes rest → IsRow y bytes others → (x ≡ y) × (rest ≡ others)

abbrev pub HasBytes : {X : Type 0} → (X → List ℕ → List ℕ → Type 0) → Type 0
HasBytes {X} IsRow = (x : X) (bytes rest : List ℕ) → IsRow x bytes rest → 0 < length bytes

pub rows_one : {X : Type 0} (IsRow : X → List ℕ → List ℕ → Type 0) → IsOne IsRow → HasBytes IsRow → (xs ys : List X) (bytes : List ℕ) → AreReplyRows IsRow xs bytes → AreReplyRows IsRow ys bytes → xs ≡ ys
rows_one IsRow one some [] [] bytes a b = refl
rows_one IsRow one some [] (y ∷ ys) bytes a b = let more = some y bytes b.0 b.1 in absurd (omega (arith, more, ap length a))
rows_one IsRow one some (x ∷ xs) [] bytes a b = let more = some x bytes a.0 a.1 in absurd (omega (arith, more, ap length b))
rows_one IsRow one some (x ∷ xs) (y ∷ ys) bytes a b =
    let both = one x y bytes a.0 b.0 a.1 b.1 in
    let first : x ≡ y = both.0 in
    let others : xs ≡ ys = rows_one IsRow one some xs ys a.0 a.2 (subst (λ (t : List ℕ). AreReplyRows IsRow ys t) (sym both.1) b.2) in
    rw (first, others) refl

-- what can be read from the bytes is one
by_reading : {X : Type 0} (x y read : X) (rest others behind : List ℕ) → read ≡ x → read ≡ y → behind ≡ rest → behind ≡ others → (x ≡ y) × (rest ≡ others)
by_reading x y read rest others behind is_x is_y is_rest is_others = (sym is_x ∙ is_y, sym is_rest ∙ is_others)

-- ---- FLOW

abbrev instructions_in : Result (List Instruction) Code → List Instruction
instructions_in (Ok is) = is
instructions_in (Err code) = []

-- after the first 48 bytes of a row of so many: the bytes after the match, and those after the row
abbrev instruction_bytes : ℕ → List ℕ → List ℕ
instruction_bytes len tail = take (len - 48 - size_in (match_of tail)) (drop (size_in (match_of tail)) tail)

record FlowTail (table : ℕ) (fields : List MatchField) (instructions : List Instruction) (len : ℕ) (tail rest : List ℕ) : Type 0 where
  match : fields_in (match_of tail) ≡ fields
  are : instructions_in (instructions_in_bytes table (instruction_bytes len tail)) ≡ instructions
  behind : drop (len - 48) tail ≡ rest

flow_tail : (table : ℕ) (fields : List MatchField) (instructions : List Instruction) (f i rest tail : List ℕ) (len : ℕ)
    → f ++ (i ++ rest) ≡ tail → len ≡ 48 + length f + length i → EncodesMatch f fields → EncodesInstructions table i instructions → FlowTail table fields instructions len tail rest
flow_tail table fields instructions f i rest tail len whole size encoded are =
    let said : match_of tail ≡ Ok (fields, length f) = ap match_of (sym whole) ∙ match_only f (i ++ rest) fields encoded in
    let n : size_in (match_of tail) ≡ length f = ap size_in said in
    let behind : drop (size_in (match_of tail)) tail ≡ i ++ rest = ap (λ (k : ℕ). drop k tail) n ∙ ap (drop (length f)) (sym whole) ∙ drop_at f (i ++ rest) (length f) refl in
    let k : len - 48 - size_in (match_of tail) ≡ length i = omega (arith, n, size) in
    let these : instruction_bytes len tail ≡ i = ap (take (len - 48 - size_in (match_of tail))) behind ∙ take_at i rest (len - 48 - size_in (match_of tail)) (sym k) in
    record {
      match = ap fields_in said;
      are = ap instructions_in (ap (instructions_in_bytes table) these ∙ is_computed table i (Ok instructions) are tt);
      behind = ap (drop (len - 48)) (sym whole ∙ sym (append_assoc f i rest)) ∙ drop_at (f ++ i) rest (len - 48) (omega (arith, length-append f i, size));
    }

abbrev flow_at : List ℕ → FlowStats
flow_at m = record {
  table = slice_index m 2;
  duration_sec = big_number 4 (drop 4 m);
  duration_nsec = big_number 4 (drop 8 m);
  priority = big_number 2 (drop 12 m);
  idle_timeout = big_number 2 (drop 14 m);
  hard_timeout = big_number 2 (drop 16 m);
  flags = big_number 2 (drop 18 m);
  cookie = big_number 8 (drop 24 m);
  packets = big_number 8 (drop 32 m);
  bytes = big_number 8 (drop 40 m);
  fields = fields_in (match_of (drop 48 m));
  instructions = instructions_in (instructions_in_bytes (slice_index m 2) (instruction_bytes (big_number 2 m) (drop 48 m)));
}

same_flow : (s : FlowStats) (a b c d e f g h i j : ℕ) (fields : List MatchField) (instructions : List Instruction)
    → a ≡ s.table → b ≡ s.duration_sec → c ≡ s.duration_nsec → d ≡ s.priority → e ≡ s.idle_timeout → f ≡ s.hard_timeout → g ≡ s.flags → h ≡ s.cookie → i ≡ s.packets → j ≡ s.bytes → fields ≡ s.fields → instructions ≡ s.instructions
    → record { table = a; duration_sec = b; duration_nsec = c; priority = d; idle_timeout = e; hard_timeout = f; flags = g; cookie = h; packets = i; bytes = j; fields = fields; instructions = instructions } ≡ s
same_flow s a b c d e f g h i j fields instructions pa pb pc pd pe pf pg ph pi pj match are = rw (pa, pb, pc, pd, pe, pf, pg, ph, pi, pj, match, are) refl

record FlowRead (s : FlowStats) (m rest : List ℕ) : Type 0 where
  value : flow_at m ≡ s
  behind : drop (big_number 2 m - 48) (drop 48 m) ≡ rest

flow_read : (s : FlowStats) (m rest : List ℕ) → IsFlow s m rest → FlowRead s m rest
flow_read s m rest h =
    let cells : List StructCell = u16_cell (48 + length h.fields + length h.instructions) ∷ flow_cells s in
    let y = says 0 cells m m (h.fields ++ (h.instructions ++ rest)) refl h.front in
    let t = flow_tail s.table s.fields s.instructions h.fields h.instructions rest (drop 48 m) (big_number 2 m) (rest_is cells m (h.fields ++ (h.instructions ++ rest)) h.front) y.0 h.encoded h.are in
    let table : slice_index m 2 ≡ s.table = y.1.0 in
    let a = y.1.1.1.1 in
    let are = ap (λ (k : ℕ). instructions_in (instructions_in_bytes k (instruction_bytes (big_number 2 m) (drop 48 m)))) table ∙ t.are in
    record {
      value = same_flow s _ _ _ _ _ _ _ _ _ _ _ _ table y.1.1.0 y.1.1.1.0 a.0 a.1.0 a.1.1.0 a.1.1.1.0 a.1.1.1.1.0 a.1.1.1.1.1.0 a.1.1.1.1.1.1.0 t.match are;
      behind = t.behind;
    }

pub flow_one : IsOne IsFlow
flow_one x y m rest others h k =
    let a = flow_read x m rest h in
    let b = flow_read y m others k in
    by_reading x y (flow_at m) rest others (drop (big_number 2 m - 48) (drop 48 m)) a.value b.value a.behind b.behind

pub flow_some : HasBytes IsFlow
flow_some s m rest h = omega (arith, size_is (u16_cell (48 + length h.fields + length h.instructions) ∷ flow_cells s) m (h.fields ++ (h.instructions ++ rest)) h.front)

-- ---- TABLE

abbrev table_at : List ℕ → TableStats
table_at m = record { table = slice_index m 0; active = big_number 4 (drop 4 m); lookups = big_number 8 (drop 8 m); matched = big_number 8 (drop 16 m) }

same_table : (s : TableStats) (a b c d : ℕ) → a ≡ s.table → b ≡ s.active → c ≡ s.lookups → d ≡ s.matched → record { table = a; active = b; lookups = c; matched = d } ≡ s
same_table s a b c d pa pb pc pd = rw (pa, pb, pc, pd) refl

table_read : (s : TableStats) (m rest : List ℕ) → IsTable s m rest → table_at m ≡ s
table_read s m rest h = let y = says 0 (table_cells s) m m rest refl h in same_table s _ _ _ _ y.0 y.1.0 y.1.1.0 y.1.1.1.0

pub table_one : IsOne IsTable
table_one x y m rest others h k =
    let left : drop 24 m ≡ rest = sym (rest_is (table_cells x) m rest h) in
    let right : drop 24 m ≡ others = sym (rest_is (table_cells y) m others k) in
    by_reading x y (table_at m) rest others (drop 24 m) (table_read x m rest h) (table_read y m others k) left right

pub table_some : HasBytes IsTable
table_some s m rest h = omega (arith, size_is (table_cells s) m rest h)

-- ---- PORT_STATS

abbrev counters_at : List ℕ → PortCounters
counters_at m = record {
  rx_packets = big_number 8 (drop 8 m);
  tx_packets = big_number 8 (drop 16 m);
  rx_bytes = big_number 8 (drop 24 m);
  tx_bytes = big_number 8 (drop 32 m);
  rx_dropped = big_number 8 (drop 40 m);
  tx_dropped = big_number 8 (drop 48 m);
  rx_errors = big_number 8 (drop 56 m);
}

same_counters : (s : PortCounters) (a b c d e f g : ℕ) → a ≡ s.rx_packets → b ≡ s.tx_packets → c ≡ s.rx_bytes → d ≡ s.tx_bytes → e ≡ s.rx_dropped → f ≡ s.tx_dropped → g ≡ s.rx_errors
    → record { rx_packets = a; tx_packets = b; rx_bytes = c; tx_bytes = d; rx_dropped = e; tx_dropped = f; rx_errors = g } ≡ s
same_counters s a b c d e f g pa pb pc pd pe pf pg = rw (pa, pb, pc, pd, pe, pf, pg) refl

abbrev port_at : List ℕ → PortStats
port_at m = record { port = big_number 4 m; counters = counters_at m; duration_sec = big_number 4 (drop 104 m); duration_nsec = big_number 4 (drop 108 m) }

same_port : (s : PortStats) (counters : PortCounters) (a b c : ℕ) → a ≡ s.port → counters ≡ s.counters → b ≡ s.duration_sec → c ≡ s.duration_nsec → record { port = a; counters = counters; duration_sec = b; duration_nsec = c } ≡ s
same_port s counters a b c pa same pb pc = rw (pa, same, pb, pc) refl

port_read : (s : PortStats) (m rest : List ℕ) → IsPort s m rest → port_at m ≡ s
port_read s m rest h =
    let y = says 0 (port_stats_cells s) m m rest refl h in
    let a = y.1.1.1.1 in
    let last = a.1.1.1.1.1.1.1.1.1 in
    same_port s (counters_at m) _ _ _ y.0 (same_counters s.counters _ _ _ _ _ _ _ y.1.0 y.1.1.0 y.1.1.1.0 a.0 a.1.0 a.1.1.0 a.1.1.1.0) last.0 last.1.0

pub port_one : IsOne IsPort
port_one x y m rest others h k =
    let left : drop 112 m ≡ rest = sym (rest_is (port_stats_cells x) m rest h) in
    let right : drop 112 m ≡ others = sym (rest_is (port_stats_cells y) m others k) in
    by_reading x y (port_at m) rest others (drop 112 m) (port_read x m rest h) (port_read y m others k) left right

pub port_some : HasBytes IsPort
port_some s m rest h = omega (arith, size_is (port_stats_cells s) m rest h)

-- ---- PORT_DESC

abbrev description_at : List ℕ → PortDescription
description_at m = record { number = big_number 4 m; hw = take 6 (drop 8 m); name = take 16 (drop 16 m); config = big_number 4 (drop 32 m); state = big_number 4 (drop 36 m) }

description_read : (p : PortDescription) (m rest : List ℕ) → IsDescribedPort p m rest → description_at m ≡ p
description_read p m rest h = let y = says 0 (port_cells p) m m rest refl h in same_description p _ _ _ _ _ y.0 y.1.0 y.1.1.0 y.1.1.1.0 y.1.1.1.1.0

pub described_one : IsOne IsDescribedPort
described_one x y m rest others h k =
    let left : drop 64 m ≡ rest = sym (rest_is (port_cells x) m rest h) in
    let right : drop 64 m ≡ others = sym (rest_is (port_cells y) m others k) in
    by_reading x y (description_at m) rest others (drop 64 m) (description_read x m rest h) (description_read y m others k) left right

pub described_some : HasBytes IsDescribedPort
described_some p m rest h = omega (arith, size_is (port_cells p) m rest h)
