-- Copies of flow tables.
use Rattle.std.proofs.Common.{◌≡◌, ◌≢◌, ℕ, zero, suc, ◌+◌, ◌<◌, Bool, false, cond, List, [], ◌∷◌, Some, length, get_or, set, refl, sym, ap, ◌∙◌, arith}
use Rattle.std.{specs.Prelude.map, specs.Prelude.slice_index_or, specs.List.list_all, proofs.Math.ListN.get_or-map, proofs.lemmas.Bool.Decides.nat_tests}
use Rattle.std.proofs.{lemmas.List.map-set, lemmas.List.set-set, lemmas.List.set-get_or, lemmas.List.Folds.list_all-map}
use Rattle.of_actions.specs.declared.instruction.Instruction.{Instruction}
use Rattle.of_table.specs.Entries.{Numbered, no_entries, table_of, entry_of, flows_of}
use Rattle.of_table.specs.Tables.{Tables, NumberedTables, table_at, with_table, each_from, is_in, modified_table, modified_in, tables_of}
use Rattle.of_table.specs.{declared.entry.Entry.Entry, declared.selection.Selector.Selector, declared.selection.Cause.TheVariants.Moment, Table.Table, Table.empty_table}
use Rattle.of_table.specs.{Selecting.stays, Selecting.modified, Copied.NumberedCopy, Copied.swapped_in, Copied.swapped_out, Deadlines.NoneOver, Sound.AreSoundEntries, Sound.AllSound}
use Rattle.of_table.proofs.{Soundness.sound_everywhere, TablesLemmas.table_is}

-- ---- when entries expire is in their flows and times, whatever their numbers

pub copies_stay : (due : ℕ) (es copies : List Entry) → flows_of copies ≡ flows_of es → NoneOver due es → NoneOver due copies
copies_stay due es copies same none at lt =
    sym (list_all-map (stays (Moment at)) entry_of copies) ∙ ap (list_all (stays (Moment at))) same ∙ list_all-map (stays (Moment at)) entry_of es ∙ none at lt

-- ---- a copy and its table change places

-- the table that is taken out is sound
pub taken_sound : (k : ℕ) (ns : List Numbered) (t d : Numbered) → k < length ns → t ≡ get_or ns k d → AllSound 0 (map table_of ns) → AreSoundEntries k (flows_of t.entries)
taken_sound k ns t d lt is s =
    let there : AreSoundEntries k (slice_index_or (map table_of ns) k empty_table).flows = sound_everywhere ns k _ refl s in
    let same : slice_index_or (map table_of ns) k empty_table ≡ table_of t = get_or-map table_of ns k no_entries ∙ ap table_of (sym (table_is ns k t d lt is)) in
    rw same at there

pub swapped_back : (c : NumberedCopy) (n : NumberedTables) → swapped_in (swapped_out c n) (swapped_in c n) ≡ n
swapped_back c n =
    let tables : set (set n.tables c.table c.copy) c.table (slice_index_or n.tables c.table no_entries) ≡ n.tables = set-set n.tables c.table c.copy (slice_index_or n.tables c.table no_entries) ∙ set-get_or n.tables c.table no_entries in
    λ j. record { tables = tables j; latest = n.latest }

pub unseen : (c : NumberedCopy) (n : NumberedTables) → table_of c.copy ≡ table_at c.table (tables_of n) → tables_of (swapped_in c n) ≡ tables_of n
unseen c n same =
    let ts : List Table = map table_of n.tables in
    let tables : map table_of (set n.tables c.table c.copy) ≡ ts = map-set table_of n.tables c.table c.copy ∙ ap (set ts c.table) same ∙ set-get_or ts c.table empty_table in
    λ j. record { tables = tables j; latest = n.latest }

pub restored : (c : NumberedCopy) (t : Table) (before after : NumberedTables) → table_of c.copy ≡ table_at c.table (tables_of before) → tables_of after ≡ with_table c.table t (tables_of before) → tables_of (swapped_in c after) ≡ tables_of before
restored c t before after same is =
    let ts : List Table = map table_of before.tables in
    let changed : map table_of after.tables ≡ set ts c.table t = ap (λ (x : Tables). x.tables) is in
    let latest : after.latest ≡ before.latest = ap (λ (x : Tables). x.latest) is in
    let tables : map table_of (set after.tables c.table c.copy) ≡ ts = map-set table_of after.tables c.table c.copy ∙ (λ j. set (changed j) c.table (same j)) ∙ set-set ts c.table t (slice_index_or ts c.table empty_table) ∙ set-get_or ts c.table empty_table in
    λ j. record { tables = tables j; latest = latest j }

-- ---- a MODIFY that names one table changes no other

none_from : {X : Type 0} (f : ℕ → X → X) (m j : ℕ) (ts : List X) → ((i : ℕ) (t : X) → i ≢ m → f i t ≡ t) → m < j → each_from f j ts ≡ ts
none_from f m j [] others lt = refl
none_from f m j (t ∷ ts) others lt = λ i. others j t (omega arith) i ∷ none_from f m (suc j) ts others (omega arith) i

one_from : {X : Type 0} (f : ℕ → X → X) (m j k : ℕ) (ts : List X) (d : X) → ((i : ℕ) (t : X) → i ≢ m → f i t ≡ t) → j + k ≡ m → each_from f j ts ≡ set ts k (f m (get_or ts k d))
one_from f m j k [] d others is = refl
one_from f m j zero (t ∷ ts) d others is =
    let here : j ≡ m = omega (arith, is) in
    λ i. f (here i) t ∷ none_from f m (suc j) ts others (omega (arith, is)) i
one_from f m j (suc k) (t ∷ ts) d others is = λ i. others j t (omega (arith, is)) i ∷ one_from f m (suc j) k ts d others (omega (arith, is)) i

not_named : (w : Selector) (is : List Instruction) (reset : Bool) (m : ℕ) → w.table ≡ Some m → (i : ℕ) (t : Table) → i ≢ m → modified_table w is reset i t ≡ t
not_named w is reset m names i t apart =
    let other : is_in w.table i ≡ false = rw names (grind (arith, nat_tests)) in
    ap (λ (b : Bool). cond b (record t { flows = modified w is reset t.flows }) t) other

one_modified : (w : Selector) (is : List Instruction) (reset : Bool) (k : ℕ) (ts : Tables) → w.table ≡ Some k → modified_in w is reset ts ≡ with_table k (modified_table w is reset k (table_at k ts)) ts
one_modified w is reset k ts names =
    let tables : each_from (modified_table w is reset) 0 ts.tables ≡ set ts.tables k (modified_table w is reset k (get_or ts.tables k empty_table)) = one_from (modified_table w is reset) k 0 k ts.tables empty_table (not_named w is reset k names) (omega arith) in
    λ j. record { tables = tables j; latest = ts.latest }

pub restored_modified : (c : NumberedCopy) (w : Selector) (is : List Instruction) (reset : Bool) (before after : NumberedTables) → w.table ≡ Some c.table → table_of c.copy ≡ table_at c.table (tables_of before) → tables_of after ≡ modified_in w is reset (tables_of before) →
    tables_of (swapped_in c after) ≡ tables_of before
restored_modified c w is reset before after names same by =
    restored c (modified_table w is reset c.table (table_at c.table (tables_of before))) before after same (by ∙ one_modified w is reset c.table (tables_of before) names)
