-- Walks over tables and their entries.
use Rattle.std.proofs.Common.{◌≡◌, ◌<◌, ℕ, zero, suc, ◌+◌, Bool, true, false, cond, List, [], ◌∷◌, ◌++◌, length, take, get_or, refl, ap, sym, ◌∙◌, append_assoc, add-one, arith}
use Rattle.std.{specs.Prelude.map, specs.Prelude.filter, proofs.lemmas.List.append-nil, proofs.lemmas.List.length-map, proofs.lemmas.List.map-append, proofs.Math.ListN.get_or-map}
use Rattle.of_table.specs.{Table.FlowEntry, Table.Table, Table.empty_table, declared.selection.Selector.Selector, declared.entry.Entry.Entry}
use Rattle.of_table.specs.{Entries.entry_of, Entries.flows_of, Entries.no_entries, Entries.table_of, Tables.NumberedTables, Tables.numbered_at, Tables.table_at, Tables.tables_of, Selecting.selects}
use Rattle.of_statistics.{specs.Replies.Draft, specs.Replies.with_rows, specs.Flows.from_tables, specs.Flows.flow_row, specs.Flows.rows_of_one, specs.Flows.rows_of_entries, proofs.Cutting.rows_more}

-- a table without the numbers of its entries
pub table_at_is : (k : ℕ) (n : NumberedTables) → table_at k (tables_of n) ≡ table_of (numbered_at k n)
table_at_is k n = get_or-map table_of n.tables k no_entries

-- it has as many entries
pub entries_count : (k : ℕ) (n : NumberedTables) → length (numbered_at k n).entries ≡ length (table_at k (tables_of n)).flows
entries_count k n = sym (ap (λ (t : Table). length t.flows) (table_at_is k n) ∙ length-map (numbered_at k n).entries entry_of)

-- ---- one table more

more_from : {X : Type 0} (f : ℕ → Table → List X) (j k : ℕ) (ts : List Table) (d : Table) → k < length ts → from_tables f j (take (suc k) ts) ≡ from_tables f j (take k ts) ++ f (j + k) (get_or ts k d)
more_from f j k [] d lt = absurd (omega (arith, lt))
more_from f j zero (t ∷ ts) d lt = let same : j ≡ j + 0 = omega arith in append-nil (f j t) ∙ ap (λ (i : ℕ). f i t) same
more_from {X} f j (suc k) (t ∷ ts) d lt =
    let same : suc j + k ≡ j + suc k = omega arith in
    ap (λ (xs : List X). f j t ++ xs) (more_from f (suc j) k ts d (omega (arith, lt)) ∙ ap (λ (i : ℕ). from_tables f (suc j) (take k ts) ++ f i (get_or ts k d)) same)
    ∙ sym (append_assoc (f j t) (from_tables f (suc j) (take k ts)) (f (j + suc k) (get_or ts k d)))

pub from_more : {X : Type 0} (f : ℕ → Table → List X) (k : ℕ) (ts : List Table) (d : Table) → k < length ts → from_tables f 0 (take (k + 1) ts) ≡ from_tables f 0 (take k ts) ++ f k (get_or ts k d)
from_more f k ts d lt =
    let zero_more : 0 + k ≡ k = omega arith in
    rw (add-one k) (rw zero_more at (more_from f 0 k ts d lt))

-- ---- rows of one table more

pub rows_of_more : {X : Type 0} (row : X → List ℕ) (f : ℕ → Table → List X) (k : ℕ) (ts : List Table) (start before after : Draft) → k < length ts
    → before ≡ with_rows start (map row (from_tables f 0 (take k ts))) → after ≡ with_rows before (map row (f k (get_or ts k empty_table)))
    → after ≡ with_rows start (map row (from_tables f 0 (take (k + 1) ts)))
rows_of_more row f k ts start before after lt was is =
    let these = map row (from_tables f 0 (take k ts)) in
    let next = map row (f k (get_or ts k empty_table)) in
    is ∙ ap (λ (d : Draft). with_rows d next) was ∙ sym (rows_more start these next)
    ∙ ap (with_rows start) (sym (ap (map row) (from_more f k ts empty_table lt) ∙ map-append row (from_tables f 0 (take k ts)) (f k (get_or ts k empty_table))))

pub bytes_of_more : (f : ℕ → Table → List ℕ) (k : ℕ) (ts : List Table) (head before after : List ℕ) → k < length ts → before ≡ head ++ from_tables f 0 (take k ts) → after ≡ before ++ f k (get_or ts k empty_table) → after ≡ head ++ from_tables f 0 (take (k + 1) ts)
bytes_of_more f k ts head before after lt was is =
    let next = f k (get_or ts k empty_table) in
    is ∙ ap (λ (t : List ℕ). t ++ next) was ∙ append_assoc head (from_tables f 0 (take k ts)) next ∙ ap (λ (t : List ℕ). head ++ t) (sym (from_more f k ts empty_table lt))

-- ---- rows of one entry more

pub rows_of_first : (now : ℕ) (w : Selector) (k : ℕ) (e : FlowEntry) (flows : List FlowEntry) → rows_of_entries now w k (e ∷ flows) ≡ rows_of_one now w k e ++ rows_of_entries now w k flows
rows_of_first now w k e flows = by_test (selects w e)
  where
    by_test : (b : Bool) → map (flow_row now) (map (λ e. record { table = k; entry = e }) (cond b (e ∷ filter (selects w) flows) (filter (selects w) flows))) ≡ cond b (flow_row now (record { table = k; entry = e }) ∷ []) [] ++ rows_of_entries now w k flows
    by_test true = refl
    by_test false = refl

pub entry_put : (now : ℕ) (w : Selector) (k : ℕ) (before after all : Draft) (e : Entry) (left others : List Entry) → left ≡ e ∷ others → after ≡ with_rows before (rows_of_one now w k (entry_of e))
    → with_rows before (rows_of_entries now w k (flows_of left)) ≡ all → with_rows after (rows_of_entries now w k (flows_of others)) ≡ all
entry_put now w k before after all e left others first put whole =
    let rest = rows_of_entries now w k (flows_of others) in
    ap (λ (d : Draft). with_rows d rest) put
    ∙ sym (rows_more before (rows_of_one now w k (entry_of e)) rest)
    ∙ ap (with_rows before) (sym (rows_of_first now w k (entry_of e) (flows_of others)) ∙ ap (λ (es : List Entry). rows_of_entries now w k (flows_of es)) (sym first))
    ∙ whole
