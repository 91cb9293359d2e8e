-- Tables after one of them is changed.
use Rattle.std.proofs.Common.{◌≡◌, ℕ, zero, suc, ◌+◌, ◌<◌, Bool, true, false, cond, List, [], ◌∷◌, ◌++◌, Result, Ok, Err, length, get_or, set, take, drop, ◌≤◌, add-one, append_assoc, refl, sym, ap, subst, ◌∙◌, inl, inr, ◌⊎◌, arith}
use Rattle.std.specs.Prelude.{Option, map, replicate, slice_set, slice_index_or, IfOk, OnOk}
use Rattle.std.proofs.lemmas.List.{map-set, map-append, take_all, drop_all, append-nil}
use Rattle.std.proofs.Math.ListN.{get_or-map}
use Rattle.of_actions.specs.declared.instruction.Instruction.{Instruction}
use Rattle.of_table.specs.Entries.{Numbered, AddsEntry, IsNumberFor, added_entries, no_entries, table_of, flows_of, entry_numbers}
use Rattle.of_table.specs.Selecting.{NumberedNotice, entries_left, kept_of, modified, modified_entries, notices, notices_of, numbered_notices, all_told}
use Rattle.of_table.specs.Tables.{NumberedTables, AddsFlow, numbered_at, added_to, is_in, concerns, table_at, with_table, tables_of, all_numbers, each_from, cause_at, latest_after, left_table, left_in, modified_table, modified_in, table_notices, notices_from, notices_in, modified_numbered, all_modified, kept_table, all_kept, told_table, numbered_notices_from, told_in}
use Rattle.of_table.specs.{declared.flow.Flow.Flow, Table.FlowEntry, Table.Table, Table.empty_table, Table.added, Copies.wanted_in, Copies.wanted_from, declared.selection.Cause.Cause}
use Rattle.of_table.specs.{declared.selection.Cause.TheVariants.Delete, declared.selection.Cause.TheVariants.Group, declared.selection.Selector.Selector, declared.selection.Removed.Removed}
use Rattle.of_table.proofs.{ModifyLemmas.set_same, ModifyLemmas.flows_modified, RemoveLemmas.flows_left, RemoveLemmas.untold, RemoveLemmas.notices_told, RemoveLemmas.notices_all}
use Rattle.of_table.proofs.{CopyLemmas.replicate_more, AddLemmas.flows_added}

any_default : {X : Type 0} (xs : List X) (k : ℕ) (c d : X) → k < length xs → get_or xs k c ≡ get_or xs k d
any_default [] k c d lt = absurd (omega (arith, lt))
any_default (x ∷ xs) zero c d lt = refl
any_default (x ∷ xs) (suc k) c d lt = any_default xs k c d (omega (arith, lt))

-- beyond the end is the default
pub get_or_past : {X : Type 0} (xs : List X) (k : ℕ) (d : X) → length xs ≤ k → get_or xs k d ≡ d
get_or_past [] k d le = refl
get_or_past (x ∷ xs) zero d le = absurd (omega (arith, le))
get_or_past (x ∷ xs) (suc k) d le = get_or_past xs k d (omega (arith, le))

-- and nothing can be put there
pub set_past : {X : Type 0} (xs : List X) (k : ℕ) (x : X) → length xs ≤ k → set xs k x ≡ xs
set_past [] k x le = refl
set_past (y ∷ xs) zero x le = absurd (omega (arith, le))
set_past {X} (y ∷ xs) (suc k) x le = ap (λ (ys : List X). y ∷ ys) (set_past xs k x (omega (arith, le)))

-- the table that is there
pub table_is : (ns : List Numbered) (k : ℕ) (old d : Numbered) → k < length ns → old ≡ get_or ns k d → old ≡ slice_index_or ns k no_entries
table_is ns k old d lt is = is ∙ any_default ns k d no_entries lt

-- one table is changed by f, and the others stay
pub tables_set : (ns : List Numbered) (k latest : ℕ) (old new d : Numbered) (f : Table → Table) → k < length ns → old ≡ get_or ns k d → table_of new ≡ f (table_of old) →
    tables_of (record { tables = set ns k new; latest = latest }) ≡ with_table k (f (table_at k (tables_of (record { tables = ns; latest = latest })))) (tables_of (record { tables = ns; latest = latest }))
tables_set ns k latest old new d f lt is by =
    let value : table_of old ≡ get_or (map table_of ns) k (table_of no_entries) = ap table_of (table_is ns k old d lt is) ∙ sym (get_or-map table_of ns k no_entries) in
    let changed : map table_of (set ns k new) ≡ slice_set (map table_of ns) k (f (slice_index_or (map table_of ns) k empty_table)) = map-set table_of ns k new ∙ ap (set (map table_of ns) k) (by ∙ ap f value) in
    λ j. record { tables = changed j; latest = latest }

pub numbers_set : (ns : List Numbered) (k latest : ℕ) (old new d : Numbered) → k < length ns → old ≡ get_or ns k d → entry_numbers new.entries ≡ entry_numbers old.entries →
    all_numbers (record { tables = set ns k new; latest = latest }) ≡ all_numbers (record { tables = ns; latest = latest })
numbers_set ns k latest old new d lt is same = set_same (λ t. entry_numbers t.entries) ns k new d lt (same ∙ ap (λ (t : Numbered). entry_numbers t.entries) is)

-- ---- tables changed one after the other, each by its number

-- the first so many are changed
abbrev pub each_to : {X : Type 0} → (ℕ → X → X) → ℕ → ℕ → List X → List X
each_to f j k ts = each_from f j (take k ts) ++ drop k ts

each_at : {X : Type 0} (f : ℕ → X → X) (j k : ℕ) (ts : List X) (d : X) → k < length ts → get_or (each_to f j k ts) k d ≡ get_or ts k d
each_at f j k [] d lt = absurd (omega (arith, lt))
each_at f j zero (t ∷ ts) d lt = refl
each_at f j (suc k) (t ∷ ts) d lt = each_at f (suc j) k ts d (omega (arith, lt))

each_set : {X : Type 0} (f : ℕ → X → X) (j k : ℕ) (ts : List X) (d : X) → k < length ts → set (each_to f j k ts) k (f (j + k) (get_or ts k d)) ≡ each_to f j (suc k) ts
each_set f j k [] d lt = absurd (omega (arith, lt))
each_set {X} f j zero (t ∷ ts) d lt = let same : j + 0 ≡ j = omega arith in ap (λ (i : ℕ). f i t ∷ ts) same
each_set {X} f j (suc k) (t ∷ ts) d lt =
    let same : j + suc k ≡ suc j + k = omega arith in
    ap (λ (us : List X). f j t ∷ us) (ap (λ (i : ℕ). set (each_to f (suc j) k ts) k (f i (get_or ts k d))) same ∙ each_set f (suc j) k ts d (omega (arith, lt)))

-- the table that comes next is not changed yet
pub next_is : {X : Type 0} (f : ℕ → X → X) (k : ℕ) (ns all : List X) (d : X) → k < length all → ns ≡ each_to f 0 k all → get_or ns k d ≡ get_or all k d
next_is {X} f k ns all d lt so = ap (λ (ts : List X). get_or ts k d) so ∙ each_at f 0 k all d lt

-- one more is changed
pub each_more : {X : Type 0} (f : ℕ → X → X) (k : ℕ) (ns all : List X) (new d : X) → k < length all → ns ≡ each_to f 0 k all → new ≡ f k (get_or ns k d) → set ns k new ≡ each_to f 0 (k + 1) all
each_more f k ns all new d lt so by =
    let value : new ≡ f k (get_or all k d) = by ∙ ap (f k) (next_is f k ns all d lt so) in
    let zero_more : k ≡ 0 + k = omega arith in
    rw add-one
    ((λ i. set (so i) k (value i)) ∙ ap (λ (i : ℕ). set (each_to f 0 k all) k (f i (get_or all k d))) zero_more ∙ each_set f 0 k all d lt)

-- all are changed
pub each_all : {X : Type 0} (f : ℕ → X → X) (k : ℕ) (ts : List X) → length ts ≤ k → each_to f 0 k ts ≡ each_from f 0 ts
each_all f k ts le = rw (take_all k ts le, drop_all k ts le) (append-nil (each_from f 0 ts))

-- the notices of one more table
told_more_from : (cause : Cause) (j k : ℕ) (ts : List Numbered) (d : Numbered) → k < length ts → numbered_notices_from cause j (take k ts) ++ told_table cause (j + k) (get_or ts k d) ≡ numbered_notices_from cause j (take (suc k) ts)
told_more_from cause j k [] d lt = absurd (omega (arith, lt))
told_more_from cause j zero (t ∷ ts) d lt = let same : j + 0 ≡ j = omega arith in ap (λ (i : ℕ). told_table cause i t) same ∙ sym (append-nil (told_table cause j t))
told_more_from cause j (suc k) (t ∷ ts) d lt =
    let same : j + suc k ≡ suc j + k = omega arith in
    append_assoc (told_table cause j t) (numbered_notices_from cause (suc j) (take k ts)) (told_table cause (j + suc k) (get_or ts k d))
    ∙ ap (λ (ns : List NumberedNotice). told_table cause j t ++ ns) (ap (λ (i : ℕ). numbered_notices_from cause (suc j) (take k ts) ++ told_table cause i (get_or ts k d)) same ∙ told_more_from cause (suc j) k ts d (omega (arith, lt)))

pub told_more : (cause : Cause) (k : ℕ) (ts : List Numbered) (d : Numbered) (before now now' : List NumberedNotice) → k < length ts → d ≡ get_or ts k d → now ≡ before ++ numbered_notices_from cause 0 (take k ts) → now' ≡ now ++ told_table cause k d → now' ≡ before ++ numbered_notices_from cause 0 (take (k + 1) ts)
told_more cause k ts d before now now' lt at was is =
    let zero_more : k ≡ 0 + k = omega arith in
    is ∙ ap (λ (t : Numbered). now ++ told_table cause k t) at ∙ ap (λ (ns : List NumberedNotice). ns ++ told_table cause k (get_or ts k d)) was ∙ append_assoc before (numbered_notices_from cause 0 (take k ts)) (told_table cause k (get_or ts k d))
    ∙ ap (λ (ns : List NumberedNotice). before ++ ns) (ap (λ (i : ℕ). numbered_notices_from cause 0 (take k ts) ++ told_table cause i (get_or ts k d)) zero_more ∙ rw add-one (told_more_from cause 0 k ts d lt))

-- the copies that one more table needs
wanted_more_from : (w : Selector) (j k : ℕ) (ts : List Numbered) (d : Numbered) → k < length ts → wanted_from w j (take (suc k) ts) ≡ wanted_from w j (take k ts) + wanted_in w (j + k) (get_or ts k d)
wanted_more_from w j k [] d lt = absurd (omega (arith, lt))
wanted_more_from w j zero (t ∷ ts) d lt = let same : j + 0 ≡ j = omega arith in rw same (omega arith)
wanted_more_from w j (suc k) (t ∷ ts) d lt =
    let same : j + suc k ≡ suc j + k = omega arith in
    let rest = wanted_more_from w (suc j) k ts d (omega (arith, lt)) in
    rw (same, rest) (omega arith)

pub wanted_more : (w : Selector) (k : ℕ) (ts : List Numbered) (d : Numbered) → k < length ts → wanted_from w 0 (take (k + 1) ts) ≡ wanted_from w 0 (take k ts) + wanted_in w k (get_or ts k d)
wanted_more w k ts d lt =
    let zero_more : 0 + k ≡ k = omega arith in
    rw (add-one k) (rw zero_more at (wanted_more_from w 0 k ts d lt))

-- a part needs no more than all
wanted_part_from : (w : Selector) (j k : ℕ) (ts : List Numbered) → wanted_from w j (take k ts) ≤ wanted_from w j ts
wanted_part_from w j zero ts = omega arith
wanted_part_from w j (suc k) [] = omega arith
wanted_part_from w j (suc k) (t ∷ ts) = let rest = wanted_part_from w (suc j) k ts in omega (arith, rest)

pub wanted_part : (w : Selector) (k : ℕ) (ts : List Numbered) → wanted_from w 0 (take k ts) ≤ wanted_from w 0 ts
wanted_part w k ts = wanted_part_from w 0 k ts

pub wanted_then : (w : Selector) (f : ℕ → Numbered → Numbered) (k : ℕ) (ns all : List Numbered) (d : Numbered) → k < length all → ns ≡ each_to f 0 k all → wanted_from w 0 (take (k + 1) all) ≡ wanted_from w 0 (take k all) + wanted_in w k (get_or ns k d)
wanted_then w f k ns all d lt so = rw (next_is f k ns all d lt so) (wanted_more w k all d lt)

-- ---- the same without the numbers

pub each-map : (f : ℕ → Numbered → Numbered) (g : ℕ → Table → Table) → ((k : ℕ) (t : Numbered) → table_of (f k t) ≡ g k (table_of t)) → (j : ℕ) (ns : List Numbered) → map table_of (each_from f j ns) ≡ each_from g j (map table_of ns)
each-map f g same j [] = refl
each-map f g same j (t ∷ ns) = λ i. same j t i ∷ each-map f g same (suc j) ns i

pub kept_one : (cause : Cause) (k : ℕ) (t : Numbered) → table_of (kept_table cause k t) ≡ left_table cause k (table_of t)
kept_one cause k t = by_test (concerns cause k)
  where
    by_test : (b : Bool) → table_of (cond b (record t { entries = kept_of cause t.entries }) t) ≡ cond b (record (table_of t) { flows = entries_left cause (flows_of t.entries) }) (table_of t)
    by_test true = ap (λ (fs : List FlowEntry). record (table_of t) { flows = fs }) (flows_left cause t.entries)
    by_test false = refl

pub tables_kept : (cause : Cause) (n : NumberedTables) → tables_of (all_kept cause n) ≡ left_in cause (tables_of n)
tables_kept cause n = ap (λ (ts : List Table). record { tables = ts; latest = latest_after cause n.latest }) (each-map (kept_table (cause_at n.latest cause)) (left_table (cause_at n.latest cause)) (kept_one (cause_at n.latest cause)) 0 n.tables)

modified_one : (w : Selector) (is : List Instruction) (reset : Bool) (k : ℕ) (t : Numbered) → table_of (modified_numbered w is reset k t) ≡ modified_table w is reset k (table_of t)
modified_one w is reset k t = by_test (is_in w.table k)
  where
    by_test : (b : Bool) → table_of (cond b (record t { entries = modified_entries w is reset t.entries }) t) ≡ cond b (record (table_of t) { flows = modified w is reset (flows_of t.entries) }) (table_of t)
    by_test true = ap (λ (fs : List FlowEntry). record (table_of t) { flows = fs }) (flows_modified w is reset t.entries)
    by_test false = refl

pub tables_modified : (w : Selector) (is : List Instruction) (reset : Bool) (n : NumberedTables) → tables_of (all_modified w is reset n) ≡ modified_in w is reset (tables_of n)
tables_modified w is reset n = ap (λ (ts : List Table). record { tables = ts; latest = n.latest }) (each-map (modified_numbered w is reset) (modified_table w is reset) (modified_one w is reset) 0 n.tables)

notices_one : (cause : Cause) (k : ℕ) (t : Numbered) → map untold (told_table cause k t) ≡ table_notices cause k (table_of t)
notices_one cause k t = by_test (concerns cause k)
  where
    by_test : (b : Bool) → map untold (cond b (numbered_notices cause k t.entries) []) ≡ cond b (notices cause k (flows_of t.entries)) []
    by_test true = notices_told cause k t.entries
    by_test false = refl

pub notices_from_told : (cause : Cause) (j : ℕ) (ns : List Numbered) → map untold (numbered_notices_from cause j ns) ≡ notices_from cause j (map table_of ns)
notices_from_told cause j [] = refl
notices_from_told cause j (t ∷ ns) = map-append untold (told_table cause j t) (numbered_notices_from cause (suc j) ns) ∙ (λ i. notices_one cause j t i ++ notices_from_told cause (suc j) ns i)

-- a list of removed entries gives the notices
pub notices_listed : (cause : Cause) (n : NumberedTables) (removed : List Removed) → all_told removed ≡ told_in cause n → notices_of removed ≡ notices_in cause (tables_of n)
notices_listed cause n removed is = notices_all removed ∙ ap (map untold) is ∙ notices_from_told (cause_at n.latest cause) 0 n.tables

-- ---- a flow is added to one of them

pub adds_set : {A E : Type 0} (r : Result A E) (k : ℕ) (flow : Flow) (ns : List Numbered) (latest : ℕ) (old new d : Numbered) → k < length ns → old ≡ get_or ns k d → OnOk r (AddsEntry latest flow old new) →
    OnOk r (AddsFlow k flow (record { tables = ns; latest = latest }) (record { tables = set ns k new; latest = latest }))
adds_set (Ok a) k flow ns latest old new d lt is adds =
    let there : old ≡ slice_index_or ns k no_entries = table_is ns k old d lt is in
    record {
      number = adds.number;
      named = subst (λ (t : Numbered). IsNumberFor flow t.entries adds.number) there adds.named;
      tables = ap (λ (t : Numbered). record { tables = set ns k t; latest = latest }) (adds.table ∙ ap (λ (t : Numbered). record t { entries = added_entries adds.number latest flow t.entries }) there);
    }
adds_set (Err e) k flow ns latest old new d lt is adds = adds

pub tables_added : {A E : Type 0} (r : Result A E) (k : ℕ) (flow : Flow) (old new : NumberedTables) → OnOk r (AddsFlow k flow old new) → OnOk r (tables_of new ≡ added_to k flow (tables_of old))
tables_added (Ok a) k flow old new adds =
    let t : Numbered = numbered_at k old in
    let same : table_at k (tables_of old) ≡ table_of t = get_or-map table_of old.tables k no_entries in
    let flows : flows_of (added_entries adds.number old.latest flow t.entries) ≡ added old.latest flow (flows_of t.entries) = flows_added adds.number old.latest flow t.entries in
    let table : table_of (record t { entries = added_entries adds.number old.latest flow t.entries }) ≡ record (table_at k (tables_of old)) { flows = added old.latest flow (table_at k (tables_of old)).flows } =
    ap (λ (fs : List FlowEntry). record (table_of t) { flows = fs }) flows ∙ ap (λ (u : Table). record u { flows = added old.latest flow u.flows }) (sym same) in
    ap tables_of adds.tables ∙ ap (λ (ts : List Table). record { tables = ts; latest = old.latest }) (map-set table_of old.tables k (record t { entries = added_entries adds.number old.latest flow t.entries }) ∙ ap (set (map table_of old.tables) k) table)
tables_added (Err e) k flow old new adds = adds

-- ---- as the functions on all tables leave them

pub kept_by : (cause at : Cause) (later : ℕ) (old new : NumberedTables) → new ≡ record { tables = each_from (kept_table at) 0 old.tables; latest = later } → at ≡ cause_at old.latest cause → later ≡ latest_after cause old.latest → new ≡ all_kept cause old
kept_by cause at later old new is when then = is ∙ (λ i. record { tables = each_from (kept_table (when i)) 0 old.tables; latest = then i })

pub left_by : (cause at : Cause) (later : ℕ) (old new : NumberedTables) → new ≡ record { tables = each_from (kept_table at) 0 old.tables; latest = later } → at ≡ cause_at old.latest cause → later ≡ latest_after cause old.latest → tables_of new ≡ left_in cause (tables_of old)
left_by cause at later old new is when then = ap tables_of (kept_by cause at later old new is when then) ∙ tables_kept cause old

-- a command is no moment
pub command_at : (cause : Cause) (latest : ℕ) → ((w : Selector) × (cause ≡ Delete w)) ⊎ ((group : Option ℕ) × (cause ≡ Group group)) → (cause ≡ cause_at latest cause) × (latest ≡ latest_after cause latest)
command_at cause latest (inl d) = rw d.1 (refl, refl)
command_at cause latest (inr g) = rw g.1 (refl, refl)

pub notices_ok : {V E : Type 0} (r : Result V E) (items : V → List Removed) (cause at : Cause) (n : NumberedTables) → IfOk r (λ v. all_told (items v) ≡ numbered_notices_from at 0 n.tables) → at ≡ cause_at n.latest cause → IfOk r (λ v. notices_of (items v) ≡ notices_in cause (tables_of n))
notices_ok (Ok v) items cause at n is when = notices_listed cause n (items v) (is ∙ ap (λ (c : Cause). numbered_notices_from c 0 n.tables) when)
notices_ok (Err e) items cause at n is when = is

-- one more empty table
pub one_more : (n : ℕ) → replicate n no_entries ++ no_entries ∷ [] ≡ replicate (suc n) no_entries
one_more n = replicate_more n no_entries
