-- Sums of what entries have counted.
use Rattle.std.proofs.Common.{◌≡◌, ◌<◌, ℕ, suc, ◌+◌, ◌%◌, ◌^◌, Bool, true, false, cond, List, [], ◌∷◌, ◌++◌, length, take, get_or, refl, ap, sym, ◌∙◌, arith}
use Rattle.std.{specs.Prelude.filter, specs.Prelude.map, specs.List.sum_by, proofs.Math.Nat.mod-add-mod, proofs.lemmas.List.map-append, proofs.lemmas.List.Sums.sum_by-cons}
use Rattle.of_table.specs.{declared.entry.Entry.Entry, declared.selection.Selector.Selector, Table.FlowEntry, Table.Table, Table.empty_table, Entries.entry_of, Entries.flows_of}
use Rattle.of_table.specs.{Tables.Tables, Tables.is_in, Selecting.selects}
use Rattle.of_statistics.specs.Flows.{EntryInTable, asked, from_tables, listed_in, totals}
use Rattle.of_statistics.specs.Adding.{nothing, plus_entry, plus_all, plus_asked, asked_of}
use Rattle.of_statistics.{specs.declared.aggregate.Totals.Totals, proofs.Walks.from_more}

plus_more : (t : Totals) (es fs : List FlowEntry) → plus_all t (es ++ fs) ≡ plus_all (plus_all t es) fs
unfolding plus_all
plus_more t [] fs = refl
plus_more t (e ∷ es) fs = plus_more (plus_entry t e) es fs

pub plus_none : (t : Totals) → plus_all t [] ≡ t
unfolding plus_all
plus_none t = refl

-- ---- one more entry

plus_first : (w : Selector) (t : Totals) (e : FlowEntry) (es : List FlowEntry) → plus_all t (filter (selects w) (e ∷ es)) ≡ plus_all (plus_asked w t e) (filter (selects w) es)
unfolding plus_all
plus_first w t e es = by_test (selects w e)
  where
    by_test : (b : Bool) → plus_all t (cond b (e ∷ filter (selects w) es) (filter (selects w) es)) ≡ plus_all (cond b (plus_entry t e) t) (filter (selects w) es)
    by_test true = refl
    by_test false = refl

pub entry_added : (w : Selector) (before after all : Totals) (e : Entry) (left others : List Entry) → left ≡ e ∷ others → after ≡ plus_asked w before (entry_of e)
    → plus_all before (filter (selects w) (flows_of left)) ≡ all → plus_all after (filter (selects w) (flows_of others)) ≡ all
entry_added w before after all e left others first is whole =
    let rest = filter (selects w) (flows_of others) in
    ap (λ (t : Totals). plus_all t rest) is ∙ sym (plus_first w before (entry_of e) (flows_of others)) ∙ ap (λ (es : List Entry). plus_all before (filter (selects w) (flows_of es))) (sym first) ∙ whole

-- ---- one more table

pub table_added : (w : Selector) (k : ℕ) (ts : List Table) (before after : Totals) → k < length ts → before ≡ plus_all nothing (from_tables (asked_of w) 0 (take k ts)) → after ≡ plus_all before (asked_of w k (get_or ts k empty_table))
    → after ≡ plus_all nothing (from_tables (asked_of w) 0 (take (k + 1) ts))
table_added w k ts before after lt was is =
    let these = from_tables (asked_of w) 0 (take k ts) in
    let next = asked_of w k (get_or ts k empty_table) in
    is ∙ ap (λ (t : Totals). plus_all t next) was ∙ sym (plus_more nothing these next) ∙ ap (plus_all nothing) (sym (from_more (asked_of w) k ts empty_table lt))

-- ---- all of them

entries_of_listed : (k : ℕ) (es : List FlowEntry) → es ≡ map (λ l. l.entry) (map (λ e. let l : EntryInTable = record { table = k; entry = e } in l) es)
entries_of_listed k [] = refl
entries_of_listed k (e ∷ es) = ap (λ (fs : List FlowEntry). e ∷ fs) (entries_of_listed k es)

one_table : (w : Selector) (k : ℕ) (t : Table) → asked_of w k t ≡ map (λ l. l.entry) (listed_in w k t)
one_table w k t = by_test (is_in w.table k)
  where
    by_test : (b : Bool) → cond b (filter (selects w) t.flows) [] ≡ map (λ l. l.entry) (cond b (map (λ e. let l : EntryInTable = record { table = k; entry = e } in l) (filter (selects w) t.flows)) [])
    by_test true = entries_of_listed k (filter (selects w) t.flows)
    by_test false = refl

all_tables : (w : Selector) (k : ℕ) (ts : List Table) → from_tables (asked_of w) k ts ≡ map (λ l. l.entry) (from_tables (listed_in w) k ts)
all_tables w k [] = refl
all_tables w k (t ∷ ts) =
    ap (λ (es : List FlowEntry). es ++ from_tables (asked_of w) (suc k) ts) (one_table w k t)
    ∙ ap (λ (es : List FlowEntry). map (λ l. l.entry) (listed_in w k t) ++ es) (all_tables w (suc k) ts)
    ∙ sym (map-append (λ l. l.entry) (listed_in w k t) (from_tables (listed_in w) (suc k) ts))

sums : (a b n : ℕ) (es : List FlowEntry) → plus_all (record { packets = a % 2 ^ 64; bytes = b % 2 ^ 64; flows = n }) es ≡ record { packets = (a + sum_by (λ e. e.packets) es) % 2 ^ 64; bytes = (b + sum_by (λ e. e.bytes) es) % 2 ^ 64; flows = n + length es }
unfolding plus_all
sums a b n [] =
    let a_is : a ≡ a + 0 = omega arith in
    let b_is : b ≡ b + 0 = omega arith in
    let n_is : n ≡ n + 0 = omega arith in
    λ i. record { packets = a_is i % 2 ^ 64; bytes = b_is i % 2 ^ 64; flows = n_is i }
sums a b n (e ∷ es) =
    let m : ℕ = 2 ^ 64 in
    let a_is : a + e.packets + sum_by (λ e. e.packets) es ≡ a + sum_by (λ e. e.packets) (e ∷ es) = omega (arith, sum_by-cons (λ e. e.packets) e es) in
    let b_is : b + e.bytes + sum_by (λ e. e.bytes) es ≡ b + sum_by (λ e. e.bytes) (e ∷ es) = omega (arith, sum_by-cons (λ e. e.bytes) e es) in
    let n_is : n + 1 + length es ≡ n + length (e ∷ es) = omega arith in
    let packets = mod-add-mod a m e.packets in
    let bytes = mod-add-mod b m e.bytes in
    ap (λ (t : Totals). plus_all t es) (λ i. record { packets = packets i; bytes = bytes i; flows = n + 1 })
    ∙ sums (a + e.packets) (b + e.bytes) (n + 1) es
    ∙ (λ i. record { packets = a_is i % m; bytes = b_is i % m; flows = n_is i })

pub totals_are : (w : Selector) (ts : Tables) (t : Totals) → t ≡ plus_all nothing (from_tables (asked_of w) 0 ts.tables) → t ≡ totals (asked w ts)
totals_are w ts t is =
    let es = asked w ts in
    let packets : 0 + sum_by (λ e. e.packets) es ≡ sum_by (λ e. e.packets) es = omega arith in
    let bytes : 0 + sum_by (λ e. e.bytes) es ≡ sum_by (λ e. e.bytes) es = omega arith in
    let flows : 0 + length es ≡ length es = omega arith in
    is ∙ ap (plus_all nothing) (all_tables w 0 ts.tables) ∙ sums 0 0 0 es ∙ (λ i. record { packets = packets i % 2 ^ 64; bytes = bytes i % 2 ^ 64; flows = flows i })
