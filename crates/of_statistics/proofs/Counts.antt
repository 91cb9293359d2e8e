-- How many entries there are of a kind.
use Rattle.std.proofs.Common.{◌≡◌, ◌<◌, ℕ, ◌+◌, Bool, true, false, cond, List, [], ◌∷◌, length, take, get_or, refl, ap, sym, ◌∙◌, arith}
use Rattle.std.{specs.Prelude.filter, specs.List.count_by, specs.List.sum_by, proofs.lemmas.List.Sums.length-filter, proofs.lemmas.List.Sums.sum_by-append}
use Rattle.of_table.specs.{declared.entry.Entry.Entry, Table.FlowEntry, Table.Table, Table.empty_table, Entries.entry_of, Entries.flows_of}
use Rattle.of_table.specs.Tables.{NumberedTables, numbered_at, table_at, tables_of}
use Rattle.of_statistics.{specs.Flows.from_tables, proofs.Walks.entries_count, proofs.Walks.from_more, proofs.Walks.table_at_is}

same_length : (p : FlowEntry → Bool) (es : List Entry) → length (filter (λ e. p (entry_of e)) es) ≡ length (filter p (flows_of es))
same_length p [] = refl
same_length p (e ∷ es) = by_test (p (entry_of e)) (same_length p es)
  where
    by_test : (b : Bool) → length (filter (λ e. p (entry_of e)) es) ≡ length (filter p (flows_of es))
        → length (cond b (e ∷ filter (λ e. p (entry_of e)) es) (filter (λ e. p (entry_of e)) es)) ≡ length (cond b (entry_of e ∷ filter p (flows_of es)) (filter p (flows_of es)))
    by_test true h = omega (arith, h)
    by_test false h = h

pub count_of_filtered : (p : FlowEntry → Bool) (es : List Entry) → length (filter (λ e. p (entry_of e)) es) ≡ count_by p (flows_of es)
count_of_filtered p es = same_length p es ∙ length-filter p (flows_of es)

-- those of a table
pub count_in : (p : FlowEntry → Bool) (k : ℕ) (n : NumberedTables) (entries : List Entry) (count : ℕ) → entries ≡ (numbered_at k n).entries → count ≡ count_by p (flows_of entries) → count ≡ count_by p (table_at k (tables_of n)).flows
count_in p k n entries count same is = is ∙ ap (λ (es : List Entry). count_by p (flows_of es)) same ∙ sym (ap (λ (t : Table). count_by p t.flows) (table_at_is k n))

pub length_in : (k : ℕ) (n : NumberedTables) (entries : List Entry) (count : ℕ) → entries ≡ (numbered_at k n).entries → count ≡ length entries → count ≡ length (table_at k (tables_of n)).flows
length_in k n entries count same is = is ∙ ap (λ (es : List Entry). length es) same ∙ entries_count k n

-- those of one table more
pub count_more : (p : FlowEntry → Bool) (k : ℕ) (ts : List Table) (m n : ℕ) → k < length ts → m ≡ count_by p (from_tables (λ k t. t.flows) 0 (take k ts)) → n ≡ count_by p (get_or ts k empty_table).flows
    → m + n ≡ count_by p (from_tables (λ k t. t.flows) 0 (take (k + 1) ts))
count_more p k ts m n lt was is =
    let f = λ (e : FlowEntry). cond (p e) 1 0 in
    let these = from_tables (λ k t. t.flows) 0 (take k ts) in
    let flows = (get_or ts k empty_table).flows in
    ap (λ (i : ℕ). i + n) was ∙ ap (λ (i : ℕ). sum_by f these + i) is ∙ sym (ap (sum_by f) (from_more (λ k t. t.flows) k ts empty_table lt) ∙ sum_by-append f these flows)
