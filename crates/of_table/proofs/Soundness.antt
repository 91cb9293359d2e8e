-- The invariants of the entries of each table are kept.
use Rattle.std.proofs.Common.{◌≡◌, ℕ, zero, suc, ◌+◌, ◌<◌, ◌≤◌, Bool, true, false, not, cond, ltb, ltb-true, List, [], ◌∷◌, ◌&&◌, length, set, get_or, refl, sym, ap, arith, ◌∙◌}
use Rattle.std.specs.Prelude.{filter, map, find, Option, Some, None, slice_index_or, Result, Ok, Err, OnOk, OnErr}
use Rattle.std.{specs.List.list_all, proofs.lemmas.Bool.Decides.nat_tests, proofs.lemmas.List.Folds.list_all-append}
use Rattle.std.proofs.lemmas.List.{length-map, length-set, map-set, get_or-map}
use Rattle.of_table.specs.Table.{FlowEntry, Table, empty_table, added, with_flow, is_same, counted_at, matched_at, add_flow_fault}
use Rattle.of_table.specs.Entries.{Numbered, table_of, entry_of, flows_of, classifier_row, AddsEntry}
use Rattle.of_table.specs.Sound.{Key, entry_key, are_instructions_fit, is_entry_fit, is_checked, are_unlike, AreSoundEntries, AllSound}
use Rattle.of_table.specs.{declared.flow.Flow.Flow, declared.selection.Cause.Cause, Selecting.entries_left, Selecting.stays, Tables.each_from, Tables.concerns, Tables.left_table, Tables.kept_table}
use Rattle.of_table.specs.{declared.entry.Entry.Entry, declared.table_fault.TableFault.TableFault, Faults.flow_fault_in}
use Rattle.of_table.proofs.{TablesLemmas.get_or_past, TablesLemmas.each-map, TablesLemmas.kept_one, AddLemmas.flows_added, ModifyLemmas.set_same}
use Rattle.of_table.proofs.Unlike.{few_added, unlike_added, unlike_filter, filter_fewer}
use Rattle.of_actions.specs.FlowCheck.{all_go_with}
use Rattle.of_classifier.specs.declared.Row.{Row}

-- ---- lists of entries

pub all-filter : {X : Type 0} (p q : X → Bool) (xs : List X) → list_all p xs ≡ true → list_all p (filter q xs) ≡ true
all-filter p q [] h = refl
all-filter p q (x ∷ xs) h = grind (arith, all-filter p q xs)

pub all-set : {X : Type 0} (p : X → Bool) (xs : List X) (i : ℕ) (x : X) → list_all p xs ≡ true → p x ≡ true → list_all p (set xs i x) ≡ true
all-set p [] i x h is = refl
all-set p (y ∷ xs) zero x h is = grind arith
all-set p (y ∷ xs) (suc i) x h is = grind (arith, all-set p xs i x)

pub all_at : {X : Type 0} (p : X → Bool) (xs : List X) (i : ℕ) (d : X) → i < length xs → list_all p xs ≡ true → p (get_or xs i d) ≡ true
all_at p [] i d lt h = absurd (omega (arith, lt))
all_at p (x ∷ xs) zero d lt h = grind arith
all_at p (x ∷ xs) (suc i) d lt h = all_at p xs i d (omega (arith, lt)) (grind arith)

with_flow_fit : (k now : ℕ) (flow : Flow) (old : Option FlowEntry) → are_instructions_fit k flow.instructions ≡ true → is_entry_fit k (with_flow now flow old) ≡ true
with_flow_fit k now flow None h = h
with_flow_fit k now flow (Some e) h = h

with_flow_checked : (now : ℕ) (flow : Flow) (old : Option FlowEntry) → all_go_with flow.fields flow.instructions ≡ true → is_checked (with_flow now flow old) ≡ true
with_flow_checked now flow None h = h
with_flow_checked now flow (Some e) h = h

all-added : (p : FlowEntry → Bool) (now : ℕ) (flow : Flow) (flows : List FlowEntry) → p (with_flow now flow (find (is_same flow) flows)) ≡ true → list_all p flows ≡ true → list_all p (added now flow flows) ≡ true
all-added p now flow flows h all =
    rw (
      list_all-append p (filter (λ e. not (is_same flow e)) flows) (with_flow now flow (find (is_same flow) flows) ∷ []),
      all-filter p (λ e. not (is_same flow e)) flows all,
      h,
    ) refl

pub added_sound : (k now : ℕ) (flow : Flow) (flows : List FlowEntry) → None ≡ add_flow_fault flow flows → are_instructions_fit k flow.instructions ≡ true → all_go_with flow.fields flow.instructions ≡ true → AreSoundEntries k flows → AreSoundEntries k (added now flow flows)
added_sound k now flow flows fault h goes s = record {
  few = few_added now flow flows fault s.few;
  unlike = unlike_added now flow flows s.unlike;
  fit = all-added (is_entry_fit k) now flow flows (with_flow_fit k now flow (find (is_same flow) flows) h) s.fit;
  checked = all-added is_checked now flow flows (with_flow_checked now flow (find (is_same flow) flows) goes) s.checked;
}

pub left_sound : (k : ℕ) (cause : Cause) (flows : List FlowEntry) → AreSoundEntries k flows → AreSoundEntries k (entries_left cause flows)
left_sound k cause flows s =
    let fewer : length (entries_left cause flows) ≤ length flows = filter_fewer (stays cause) flows in
    record {
      few = omega (arith, fewer, s.few);
      unlike = unlike_filter (stays cause) flows s.unlike;
      fit = all-filter (is_entry_fit k) (stays cause) flows s.fit;
      checked = all-filter is_checked (stays cause) flows s.checked;
    }

-- an entry of the same priority and match, whose instructions are fit, takes another's place
pub set_sound : (k i : ℕ) (e d : FlowEntry) (flows : List FlowEntry) → i < length flows → entry_key e ≡ entry_key (get_or flows i d) → is_entry_fit k e ≡ true → is_checked e ≡ true → AreSoundEntries k flows → AreSoundEntries k (set flows i e)
set_sound k i e d flows lt key h goes s =
    let long : length (set flows i e) ≡ length flows = length-set flows i e in
    record {
      few = omega (arith, long, s.few);
      unlike = ap are_unlike (set_same entry_key flows i e d lt key) ∙ s.unlike;
      fit = all-set (is_entry_fit k) flows i e s.fit h;
      checked = all-set is_checked flows i e s.checked goes;
    }

-- ---- lists of tables

pub sound_at : (j k : ℕ) (ts : List Table) (d : Table) → k < length ts → AllSound j ts → AreSoundEntries (j + k) (get_or ts k d).flows
sound_at j k [] d lt s = absurd (omega (arith, lt))
sound_at j zero (t ∷ ts) d lt s = let same : j + 0 ≡ j = omega arith in rw same s.0
sound_at j (suc k) (t ∷ ts) d lt s = let same : j + suc k ≡ suc j + k = omega arith in rw same (sound_at (suc j) k ts d (omega (arith, lt)) s.1)

pub sound_set : (j k : ℕ) (ts : List Table) (t : Table) → AreSoundEntries (j + k) t.flows → AllSound j ts → AllSound j (set ts k t)
sound_set j k [] t h s = s
sound_set j zero (u ∷ ts) t h s = let same : j + 0 ≡ j = omega arith in (rw same at h, s.1)
sound_set j (suc k) (u ∷ ts) t h s = let same : j + suc k ≡ suc j + k = omega arith in (s.0, sound_set (suc j) k ts t (rw same at h) s.1)

none_sound : (k : ℕ) → AreSoundEntries k []
none_sound k = record { few = omega arith; unlike = refl; fit = refl; checked = refl }

left_one_sound : (cause : Cause) (k : ℕ) (t : Table) → AreSoundEntries k t.flows → AreSoundEntries k (left_table cause k t).flows
left_one_sound cause k t s = by_test (concerns cause k)
  where
    by_test : (b : Bool) → AreSoundEntries k (cond b (record t { flows = entries_left cause t.flows }) t).flows
    by_test true = left_sound k cause t.flows s
    by_test false = s

left_all_sound : (cause : Cause) (k : ℕ) (ts : List Table) → AllSound k ts → AllSound k (each_from (left_table cause) k ts)
left_all_sound cause k [] s = tt
left_all_sound cause k (t ∷ ts) s = (left_one_sound cause k t s.0, left_all_sound cause (suc k) ts s.1)

-- all tables stay sound where entries are removed
pub kept_all_sound : (cause : Cause) (ns new : List Numbered) → new ≡ each_from (kept_table cause) 0 ns → AllSound 0 (map table_of ns) → AllSound 0 (map table_of new)
kept_all_sound cause ns new is s =
    let tables : map table_of new ≡ each_from (left_table cause) 0 (map table_of ns) = ap (map table_of) is ∙ each-map (kept_table cause) (left_table cause) (kept_one cause) 0 ns in
    rw tables (left_all_sound cause 0 (map table_of ns) s)

zero_plus : (k : ℕ) → 0 + k ≡ k
zero_plus k = omega arith

-- one table of many is changed and stays sound
pub step_sound : (k : ℕ) (ns : List Numbered) (new d : Numbered) → k < length ns → (AreSoundEntries k (table_of (get_or ns k d)).flows → AreSoundEntries k (table_of new).flows) → AllSound 0 (map table_of ns) → AllSound 0 (map table_of (set ns k new))
step_sound k ns new d lt step s =
    let within : k < length (map table_of ns) = rw length-map lt in
    let old : AreSoundEntries k (get_or (map table_of ns) k (table_of d)).flows = rw (zero_plus k) at (sound_at 0 k (map table_of ns) (table_of d) within s) in
    let here : AreSoundEntries k (table_of (get_or ns k d)).flows = rw (get_or-map table_of ns k d) at old in
    rw (map-set table_of ns k new) (sound_set 0 k (map table_of ns) (table_of new) (rw (zero_plus k) (step here)) s)

abbrev row_key : Row → Key
row_key r = record { priority = r.priority; fields = r.fields }

-- one entry of many is changed and stays fit
pub step_fit : (k i : ℕ) (entries : List Entry) (new d : Entry) → i < length entries → classifier_row new ≡ classifier_row (get_or entries i d) → (is_entry_fit k (entry_of (get_or entries i d)) ≡ true → is_entry_fit k (entry_of new) ≡ true) →
    (is_checked (entry_of (get_or entries i d)) ≡ true → is_checked (entry_of new) ≡ true) → AreSoundEntries k (flows_of entries) → AreSoundEntries k (flows_of (set entries i new))
step_fit k i entries new d lt row step goes s =
    let within : i < length (flows_of entries) = rw length-map lt in
    let there : get_or (flows_of entries) i (entry_of d) ≡ entry_of (get_or entries i d) = get_or-map entry_of entries i d (entry_of d) lt in
    let fits : is_entry_fit k (entry_of (get_or entries i d)) ≡ true = rw there at (all_at (is_entry_fit k) (flows_of entries) i (entry_of d) within s.fit) in
    let checks : is_checked (entry_of (get_or entries i d)) ≡ true = rw there at (all_at is_checked (flows_of entries) i (entry_of d) within s.checked) in
    let key : entry_key (entry_of new) ≡ entry_key (get_or (flows_of entries) i (entry_of d)) = ap row_key row ∙ ap entry_key (sym there) in
    rw (map-set entry_of entries i new) (set_sound k i (entry_of new) (entry_of d) (flows_of entries) within key (step fits) (goes checks) s)

-- ---- what the calls do

pub ok_added : {A : Type 0} (r : Result A TableFault) (k now : ℕ) (flow : Flow) (old new : Numbered) → flow_fault_in r ≡ add_flow_fault flow (flows_of old.entries) → OnOk r (AddsEntry now flow old new) → OnErr r (new ≡ old) →
    are_instructions_fit k flow.instructions ≡ true → all_go_with flow.fields flow.instructions ≡ true → AreSoundEntries k (table_of old).flows → AreSoundEntries k (table_of new).flows
ok_added (Ok a) k now flow old new fault ok err h goes s =
    let same : flows_of new.entries ≡ added now flow (flows_of old.entries) = ap (λ (n : Numbered). flows_of n.entries) ok.table ∙ flows_added ok.number now flow old.entries in
    rw same (added_sound k now flow (flows_of old.entries) fault h goes s)
ok_added (Err e) k now flow old new fault ok err h goes s = let same : flows_of new.entries ≡ flows_of old.entries = ap (λ (n : Numbered). flows_of n.entries) err in rw same s

counted_keys : (now place bytes : ℕ) (flows : List FlowEntry) → map entry_key (counted_at now place bytes flows) ≡ map entry_key flows
counted_keys now place bytes [] = refl
counted_keys now zero bytes (e ∷ flows) = refl
counted_keys now (suc place) bytes (e ∷ flows) = ap (λ (ks : List Key). entry_key e ∷ ks) (counted_keys now place bytes flows)

counted_length : (now place bytes : ℕ) (flows : List FlowEntry) → length (counted_at now place bytes flows) ≡ length flows
counted_length now place bytes [] = refl
counted_length now zero bytes (e ∷ flows) = refl
counted_length now (suc place) bytes (e ∷ flows) = ap suc (counted_length now place bytes flows)

counted_fit : (k now place bytes : ℕ) (flows : List FlowEntry) → list_all (is_entry_fit k) (counted_at now place bytes flows) ≡ list_all (is_entry_fit k) flows
counted_fit k now place bytes [] = refl
counted_fit k now zero bytes (e ∷ flows) = refl
counted_fit k now (suc place) bytes (e ∷ flows) = ap (λ (b : Bool). is_entry_fit k e && b) (counted_fit k now place bytes flows)

counted_checked : (now place bytes : ℕ) (flows : List FlowEntry) → list_all is_checked (counted_at now place bytes flows) ≡ list_all is_checked flows
counted_checked now place bytes [] = refl
counted_checked now zero bytes (e ∷ flows) = refl
counted_checked now (suc place) bytes (e ∷ flows) = ap (λ (b : Bool). is_checked e && b) (counted_checked now place bytes flows)

pub counted_sound : (k now place bytes : ℕ) (flows : List FlowEntry) → AreSoundEntries k flows → AreSoundEntries k (counted_at now place bytes flows)
counted_sound k now place bytes flows s =
    let long = counted_length now place bytes flows in
    record {
      few = omega (arith, long, s.few);
      unlike = ap are_unlike (counted_keys now place bytes flows) ∙ s.unlike;
      fit = counted_fit k now place bytes flows ∙ s.fit;
      checked = counted_checked now place bytes flows ∙ s.checked;
    }

-- one of the sixteen is changed
pub tables_sound : (k : ℕ) (ns : List Numbered) (old new d : Numbered) → (length ns ≡ 16) × AllSound 0 (map table_of ns) → k < length ns → old ≡ get_or ns k d → (AreSoundEntries k (table_of old).flows → AreSoundEntries k (table_of new).flows) → (length (set ns k new) ≡ 16) × AllSound 0 (map table_of (set ns k new))
tables_sound k ns old new d inv lt is step = (length-set ns k new ∙ inv.0, step_sound k ns new d lt (λ s. step (rw is s)) inv.1)

pub sound_everywhere : (ns : List Numbered) (k : ℕ) (b : Bool) → ltb k (length ns) ≡ b → AllSound 0 (map table_of ns) → AreSoundEntries k (slice_index_or (map table_of ns) k empty_table).flows
sound_everywhere ns k true lt s = rw (zero_plus k) at (sound_at 0 k (map table_of ns) empty_table (rw length-map (ltb-true k (length ns) lt)) s)
sound_everywhere ns k false lt s = rw (get_or_past (map table_of ns) k empty_table (rw length-map (grind (arith, nat_tests)))) (none_sound k)

pub matched_sound : (k now place bytes : ℕ) (old new : Numbered) → table_of new ≡ matched_at now place bytes (table_of old) → AreSoundEntries k (table_of old).flows → AreSoundEntries k (table_of new).flows
matched_sound k now place bytes old new is s = let same : flows_of new.entries ≡ counted_at now place bytes (flows_of old.entries) = ap (λ (t : Table). t.flows) is in rw same (counted_sound k now place bytes (flows_of old.entries) s)

pub same_sound : (k : ℕ) (old new : Numbered) → new.entries ≡ old.entries → AreSoundEntries k (table_of old).flows → AreSoundEntries k (table_of new).flows
same_sound k old new is s = rw is s
