-- What a switch keeps is a configuration, and one that was loaded is returned again.
use Rattle.std.proofs.Common.{◌≡◌, ℕ, zero, suc, ◌+◌, ◌<◌, ◌≤◌, eqb, ltb, Bool, true, false, not, cond, List, [], ◌∷◌, ◌++◌, length, take, get_or, Some, refl, sym, ◌∙◌, ap, subst, append_assoc, add-one, arith}
use Rattle.std.specs.Prelude.{◌&&◌, ◌||◌, map, bit_and, slice_index_or}
use Rattle.std.specs.{List.AllByRecursion, List.list_all, List.list_any, Option.option_map_or, Global.Vec}
use Rattle.std.proofs.{lemmas.Bool.and_parts, lemmas.Bool.eq-eqb, lemmas.Bool.eqb-true, lemmas.Bool.leb-true, lemmas.Bool.Decides.nat_tests, lemmas.Nat.and_le_r}
use Rattle.std.proofs.{lemmas.List.append-nil, lemmas.List.length-map, lemmas.List.length-append, lemmas.List.map-append, Math.ListN.get_or-map}
use Rattle.of_actions.specs.{InstructionLists.are_kept, InstructionLists.are_for, Rising.is_ascending}
use Rattle.of_oxm.specs.SameMatch.{is_same_match}
use Rattle.of_groups.specs.Buckets.{sends, any_sends, watches, is_badly_watched, are_fit, is_fit as is_fit_bucket}
use Rattle.of_groups.specs.Groups.{group_number, find_group, is_there, any_named, any_watches, names}
use Rattle.of_groups.specs.{declared.bucket.Bucket.Bucket, declared.group.Group.Group, declared.group.GroupKind.GroupKind}
use Rattle.of_groups.specs.declared.group.GroupKind.TheVariants.{Indirect, FastFailover}
use Rattle.of_groups.specs.{Chains.names_next, Chains.is_chain, Faults.is_absent, Faults.is_bad_watch, Faults.is_not_one, Sound.is_fit_group, Sound.AreSound as AreSoundGroups}
use Rattle.of_table.specs.Table.{FlowEntry, Table, empty_table, kept_flags, flags_number, bit}
use Rattle.of_table.specs.Sound.{AreSoundEntries, Key, entry_key, is_same_key, are_unlike, is_entry_fit, is_checked}
use Rattle.of_table.specs.{declared.flow.FlowFlags.FlowFlags, Tables.NumberedTables, Tables.tables_of, Tables.table_at, declared.entry.Entry.Entry}
use Rattle.of_table.specs.{Entries.Numbered, Entries.no_entries, Entries.flows_of, Entries.table_of, Selecting.has_action}
use Rattle.of_table.proofs.AddLemmas.{same_is, is_itself}
use Rattle.of_ports.specs.declared.port.Port.{Port}
use Rattle.of_text.specs.Groups.{TextBucket, TextGroup, bucket_of, bucket_text, group_at, groups_at, group_text, rows_of_groups}
use Rattle.of_text.specs.{Flows.Flow as TextFlow, Refusals.names_absent, Refusals.has_same_match as is_same_text, Rows.Fits, Kept.AllStandBehind, Kept.AreKeptGroups, Kept.IsEntry, Kept.IsKeptFlow}
use Rattle.of_text.specs.KeptConfigs.{IsHeaded, AreKeptFlows, AreKeptTables, IsKeptConfig}
use Rattle.of_text.specs.{Configs.Configuration, Configs.IsConfig, Configs.view_table, Configs.view_tables, declared.flow.FlowText.FlowText, Views.view, Views.view_flows}
use Rattle.of_text.proofs.{ConfigLemmas.AllFor, ConfigLemmas.all_for, EntryLemmas.config_stands, FillLemmas.sixteen, FillLemmas.table_at as text_table_at}
use Rattle.of_datapath.specs.Loading.{configuration_of, loaded_entry, loaded_table, loaded_tables, flow_kept, entry_text, table_text, texts_from}
use Rattle.of_datapath.specs.{Commands.flags_of, Configuring.AreKeptEntries, Configuring.AreKeptFrom, Buffers.HeldFrames, Numbers.without_numbers}
use Rattle.of_datapath.specs.Standing.{names_existing_groups, all_name_existing_groups, is_numbered, GroupsExist}
use Rattle.of_datapath.proofs.StandingLemmas.{absent_mapped, same_named}

-- ---- flags

abbrev flags_told : ℕ → ℕ
flags_told n = flags_number (kept_flags (kept_flags (flags_of n)))

abbrev is_told : ℕ → Bool
is_told n = not (eqb (bit_and n 25) n) || eqb (flags_told n) n

told_to : ℕ → Bool
told_to zero = is_told 0
told_to (suc m) = is_told (suc m) && told_to m

told_below : (n m : ℕ) → n ≤ m → told_to m ≡ true → is_told n ≡ true
unfolding told_to
told_below n zero l h =
    let is : 0 ≡ n = omega (arith, l) in
    subst (λ (k : ℕ). is_told k ≡ true) is h
told_below n (suc m) l h =
    let parts = and_parts (is_told (suc m)) (told_to m) h in
    by_test (eqb (suc m) n) refl parts.0 (λ less. told_below n m less parts.1)
  where
    by_test : (b : Bool) → eqb (suc m) n ≡ b → is_told (suc m) ≡ true → (n ≤ m → is_told n ≡ true) → is_told n ≡ true
    by_test true e here later = subst (λ (k : ℕ). is_told k ≡ true) (eqb-true (suc m) n e) here
    by_test false e here later = later (grind (arith, nat_tests))

flags_again : (n : ℕ) → bit_and n 25 ≡ n → flags_told n ≡ n
unfolding told_to
flags_again n h =
    let le : n ≤ 25 = subst (λ (k : ℕ). k ≤ 25) h (and_le_r n 25) in
    let all : told_to 25 ≡ true = refl in
    let one = told_below n 25 le all in
    by_test (eqb (bit_and n 25) n) (eq-eqb (bit_and n 25) n h) one
  where
    by_test : (b : Bool) → b ≡ true → (not b || eqb (flags_told n) n) ≡ true → flags_told n ≡ n
    by_test true e k = eqb-true (flags_told n) n k
    by_test false e k = absurd cc

flags_known : (f : FlowFlags) → bit_and (flags_number f) 25 ≡ flags_number f
flags_known f = by_flags f.send_removed f.no_packet_counts f.no_byte_counts
  where
    by_flags : (a b c : Bool) → bit_and (bit 1 a + bit 8 b + bit 16 c) 25 ≡ bit 1 a + bit 8 b + bit 16 c
    by_flags true true true = refl
    by_flags true true false = refl
    by_flags true false true = refl
    by_flags true false false = refl
    by_flags false true true = refl
    by_flags false true false = refl
    by_flags false false true = refl
    by_flags false false false = refl

-- ---- what was loaded is returned

flow_told : (now table : ℕ) (f : TextFlow) → f.head.table ≡ table → bit_and f.head.flags 25 ≡ f.head.flags → entry_text table (loaded_entry now f) ≡ f
flow_told now table f t k = rw (sym t, flags_again f.head.flags k) refl

flows_told : (now table : ℕ) (gs : List TextGroup) (before fs : List TextFlow) → AllFor table fs → AllStandBehind gs before fs → map (entry_text table) (map (loaded_entry now) fs) ≡ fs
flows_told now table gs before [] a h = refl
flows_told now table gs before (f ∷ fs) a h = rw (flow_told now table f a.0 h.0.flags, flows_told now table gs (before ++ f ∷ []) fs a.1 h.1) refl

tables_told : (now : ℕ) (gs : List TextGroup) (k : ℕ) (ts : List (List TextFlow)) → ((j : ℕ) → j < length ts → AllFor (k + j) (slice_index_or ts j []) × AllStandBehind gs [] (slice_index_or ts j [])) → texts_from k (map (loaded_table now) ts) ≡ ts
tables_told now gs k [] h = refl
tables_told now gs k (t ∷ ts) h =
    let here = h 0 (omega arith) in
    let zero_is : k + 0 ≡ k = omega arith in
    let mine : AllFor k t = subst (λ (n : ℕ). AllFor n t) zero_is here.0 in
    let others = tables_told now gs (suc k) ts (λ j l. let is : k + suc j ≡ suc k + j = omega arith in let later = h (suc j) (omega (arith, l)) in (subst (λ (n : ℕ). AllFor n (slice_index_or ts j [])) is later.0, later.1)) in
    rw (flows_told now k gs [] t mine here.1, others) refl

buckets_again : (bs : List TextBucket) → map bucket_text (map bucket_of bs) ≡ bs
buckets_again [] = refl
buckets_again (b ∷ bs) = ap (λ (x : List TextBucket). b ∷ x) (buckets_again bs)

groups_told : (now : ℕ) (gs : List TextGroup) → map group_text (groups_at now gs) ≡ gs
groups_told now [] = refl
groups_told now (g ∷ gs) =
    let one : group_text (group_at now g) ≡ g = ap (λ (x : List TextBucket). record { head = g.head; buckets = x }) (buckets_again g.buckets) in
    rw (one, groups_told now gs) refl

pub loaded_is_configuration : (c : Configuration) (now : ℕ) (ports : List Port) (held : HeldFrames) → IsConfig c → configuration_of (record { tables = loaded_tables now c.tables; groups = groups_at now c.groups; ports = ports; held = held }) ≡ c
loaded_is_configuration c now ports held k =
    let many : length c.tables ≡ 16 = ap length k.filled ∙ sixteen k.flows in
    let each : (j : ℕ) → j < length c.tables → AllFor (0 + j) (slice_index_or c.tables j []) × AllStandBehind c.groups [] (slice_index_or c.tables j []) = λ j l.
    let small : j < 16 = omega (arith, l, many) in
    let mine : AllFor j (slice_index_or c.tables j []) = rw (k.filled, text_table_at k.flows j small) (all_for j k.flows) in
    let zero_is : 0 + j ≡ j = omega arith in
    (subst (λ (n : ℕ). AllFor n (slice_index_or c.tables j [])) (sym zero_is) mine, config_stands c k j small) in
    let tables : texts_from 0 (map (loaded_table now) c.tables) ≡ c.tables = tables_told now c.groups 0 c.tables each in
    let groups : map group_text (groups_at now c.groups) ≡ c.groups = groups_told now c.groups in
    λ i. record { groups = groups i; tables = tables i }

-- ---- groups without counters and times

abbrev bare : Group → Group
bare g = group_at 0 (group_text g)

bares : (gs : List Group) → groups_at 0 (map group_text gs) ≡ map bare gs
bares [] = refl
bares (g ∷ gs) = ap (λ (x : List Group). bare g ∷ x) (bares gs)

module _ (p : Bucket → Bool) (same : (b : Bucket) → p (bucket_of (bucket_text b)) ≡ p b) where
  pub all_bare : (bs : List Bucket) → list_all p (map bucket_of (map bucket_text bs)) ≡ list_all p bs
  all_bare [] = refl
  all_bare (b ∷ bs) = rw (same b, all_bare bs) refl

  pub any_bare : (bs : List Bucket) → list_any p (map bucket_of (map bucket_text bs)) ≡ list_any p bs
  any_bare [] = refl
  any_bare (b ∷ bs) = rw (same b, any_bare bs) refl

length_bare : (bs : List Bucket) → length (map bucket_of (map bucket_text bs)) ≡ length bs
length_bare bs = length-map (map bucket_text bs) bucket_of ∙ length-map bs bucket_text

fit_bare : (bs : List Bucket) → are_fit (map bucket_of (map bucket_text bs)) ≡ are_fit bs
fit_bare bs = rw (length_bare bs, all_bare is_fit_bucket (λ b. refl) bs) refl

watch_bare : (kind : GroupKind) (bs : List Bucket) → is_bad_watch kind (map bucket_of (map bucket_text bs)) ≡ is_bad_watch kind bs
watch_bare FastFailover bs = any_bare is_badly_watched (λ b. refl) bs
watch_bare other bs = refl

one_bare : (kind : GroupKind) (bs : List Bucket) → is_not_one kind (map bucket_of (map bucket_text bs)) ≡ is_not_one kind bs
one_bare Indirect bs = ap (λ (n : ℕ). not (eqb n 1)) (length_bare bs)
one_bare other bs = refl

sends_bare : (p : ℕ → Bool) (bs : List Bucket) → any_sends p (map bucket_of (map bucket_text bs)) ≡ any_sends p bs
sends_bare p bs = any_bare (λ (b : Bucket). list_any (sends p) b.actions) (λ b. refl) bs

watches_bare : (p : ℕ → Bool) (kind : GroupKind) (bs : List Bucket) → any_watches p kind (map bucket_of (map bucket_text bs)) ≡ any_watches p kind bs
watches_bare p FastFailover bs = any_bare (watches p) (λ b. refl) bs
watches_bare p other bs = refl

named_bare : (p : ℕ → Bool) (g : Group) → any_named p (bare g) ≡ any_named p g
named_bare p g = rw (sends_bare p g.buckets, watches_bare p g.kind g.buckets) refl

above_bare : (n : ℕ) (gs : List Group) → list_all (λ (h : Group). ltb n h.id) (map bare gs) ≡ list_all (λ (h : Group). ltb n h.id) gs
above_bare n [] = refl
above_bare n (g ∷ gs) = ap (λ (b : Bool). ltb n g.id && b) (above_bare n gs)

rising_bare : (gs : List Group) → is_ascending group_number (map bare gs) ≡ is_ascending group_number gs
rising_bare [] = refl
rising_bare (g ∷ gs) = rw (above_bare g.id gs, rising_bare gs) refl

fits_bare : (gs : List Group) → list_all is_fit_group (map bare gs) ≡ list_all is_fit_group gs
fits_bare [] = refl
fits_bare (g ∷ gs) = rw (fit_bare g.buckets, watch_bare g.kind g.buckets, one_bare g.kind g.buckets, fits_bare gs) refl

absent_bare : (gs : List Group) → is_absent (map bare gs) ≡ is_absent gs
absent_bare gs = absent_mapped bare (λ g. refl) gs

there_bare : (n : ℕ) (gs : List Group) → is_there n (map bare gs) ≡ is_there n gs
there_bare n [] = refl
there_bare n (g ∷ gs) = ap (λ (b : Bool). eqb g.id n || b) (there_bare n gs)

whole_bare : (p : ℕ → Bool) (gs : List Group) → list_all (λ (g : Group). not (any_named p g)) (map bare gs) ≡ list_all (λ (g : Group). not (any_named p g)) gs
whole_bare p [] = refl
whole_bare p (g ∷ gs) = rw (named_bare p g, whole_bare p gs) refl

next_bare : (a b : ℕ) (gs : List Group) → names_next (map bare gs) a b ≡ names_next gs a b
next_bare a b [] = refl
next_bare a b (g ∷ gs) = by_test (eqb g.id a) (next_bare a b gs)
  where
    by_test : (t : Bool) → names_next (map bare gs) a b ≡ names_next gs a b
        → option_map_or (names b) (cond t (Some (bare g)) (find_group a (map bare gs))) false ≡ option_map_or (names b) (cond t (Some g) (find_group a gs)) false
    by_test true e = named_bare (λ (m : ℕ). eqb m b) g
    by_test false e = e

chain_bare : (a : ℕ) (behind : List ℕ) (gs : List Group) → is_chain (map bare gs) a behind ≡ is_chain gs a behind
chain_bare a [] gs = there_bare a gs
chain_bare a (b ∷ behind) gs = rw (next_bare a b gs, chain_bare b behind gs) refl

sound_bare : (gs : List Group) → AreSoundGroups gs → AreSoundGroups (map bare gs)
sound_bare gs s = record {
  rising = rising_bare gs ∙ s.rising;
  few = omega (arith, s.few, length-map gs bare);
  fit = fits_bare gs ∙ s.fit;
  whole = ap (λ (p : ℕ → Bool). list_all (λ (g : Group). not (any_named p g)) (map bare gs)) (absent_bare gs) ∙ (whole_bare (is_absent gs) gs ∙ s.whole);
  short = λ a behind chained. s.short a behind (sym (chain_bare a behind gs) ∙ chained);
}

numbers_told : (gs : List Group) → list_all is_numbered gs ≡ true → AllByRecursion (λ (g : TextGroup). g.head.id ≤ 0xffffff00) (map group_text gs)
numbers_told [] h = tt
numbers_told (g ∷ gs) h = let parts = and_parts (is_numbered g) (list_all is_numbered gs) h in (leb-true g.id 0xffffff00 parts.0, numbers_told gs parts.1)

groups_kept : (gs : List Group) → AreSoundGroups gs → list_all is_numbered gs ≡ true → AllByRecursion Fits (rows_of_groups (map group_text gs)) → AreKeptGroups (map group_text gs)
groups_kept gs s n f = record { fits = f; numbers = numbers_told gs n; sound = rw (bares gs) (sound_bare gs s) }

-- ---- the entries of a table

not_true : (b : Bool) → not b ≡ true → b ≡ false
not_true true h = absurd cc
not_true false h = refl

groups_there : (gs : List Group) (e : FlowEntry) → names_existing_groups gs e ≡ true → list_any (names_absent (map group_text gs)) e.flow.instructions ≡ false
groups_there gs e h =
    sym (same_named (map group_text gs) e.flow.instructions)
    ∙ (ap (λ (x : List Group). list_any (has_action (sends (is_absent x))) e.flow.instructions) (bares gs)
    ∙ (ap (λ (p : ℕ → Bool). list_any (has_action (sends p)) e.flow.instructions) (absent_bare gs) ∙ not_true _ h))

-- keys

same_key : (k l : Key) → is_same_key k l ≡ true → l ≡ k
same_key k l h =
    let parts = and_parts (eqb l.priority k.priority) (is_same_match l.fields k.fields) h in
    let priority : l.priority ≡ k.priority = eqb-true l.priority k.priority parts.0 in
    let fields = same_is l.fields k.fields parts.1 in
    λ j. record { priority = priority j; fields = fields j }

key_itself : (k : Key) → is_same_key k k ≡ true
key_itself k = rw (eq-eqb k.priority k.priority refl, is_itself k.fields) refl

turned_key : (k l : Key) → is_same_key k l ≡ false → is_same_key l k ≡ false
turned_key k l h = split (is_same_key l k) refl
  where
    split : (b : Bool) → is_same_key l k ≡ b → b ≡ false
    split true e =
        let same : k ≡ l = same_key l k e in
        let here : is_same_key k l ≡ true = subst (λ (x : Key). is_same_key k x ≡ true) same (key_itself k) in
        let never : true ≡ false = sym here ∙ h in
        absurd cc
    split false e = refl

none_in : {X : Type 0} (p : X → Bool) (xs : List X) (y : X) (ys : List X) → list_any p (xs ++ y ∷ ys) ≡ false → p y ≡ false
none_in p [] y ys h = by_test (p y) h
  where
    by_test : (b : Bool) → (b || list_any p ys) ≡ false → b ≡ false
    by_test true e = e
    by_test false e = refl
none_in p (x ∷ xs) y ys h = none_in p xs y ys (by_test (p x) h)
  where
    by_test : (b : Bool) → (b || list_any p (xs ++ y ∷ ys)) ≡ false → list_any p (xs ++ y ∷ ys) ≡ false
    by_test true e = absurd cc
    by_test false e = e

before_unlike : (table : ℕ) (before : List FlowEntry) (e : FlowEntry) (after : List FlowEntry) → are_unlike (map entry_key (before ++ e ∷ after)) ≡ true → list_any (is_same_text (entry_text table e)) (map (entry_text table) before) ≡ false
before_unlike table [] e after h = refl
before_unlike table (b ∷ bs) e after h =
    let parts = and_parts (not (list_any (is_same_key (entry_key b)) (map entry_key (bs ++ e ∷ after)))) (are_unlike (map entry_key (bs ++ e ∷ after))) h in
    let none : list_any (is_same_key (entry_key b)) (map entry_key bs ++ entry_key e ∷ map entry_key after) ≡ false = rw (map-append entry_key bs (e ∷ after)) at (not_true _ parts.0) in
    let one : is_same_key (entry_key e) (entry_key b) ≡ false = turned_key (entry_key b) (entry_key e) (none_in (is_same_key (entry_key b)) (map entry_key bs) (entry_key e) (map entry_key after) none) in
    rw (one, before_unlike table bs e after parts.1) refl

entries_stand : (gs : List Group) (table : ℕ) (before flows : List FlowEntry) → are_unlike (map entry_key (before ++ flows)) ≡ true → length before + length flows ≤ 4096 → list_all (names_existing_groups gs) flows ≡ true
    → AllStandBehind (map group_text gs) (map (entry_text table) before) (map (entry_text table) flows)
entries_stand gs table before [] u l h = tt
entries_stand gs table before (e ∷ flows) u l h =
    let parts = and_parts (names_existing_groups gs e) (list_all (names_existing_groups gs) flows) h in
    let more : (before ++ e ∷ []) ++ flows ≡ before ++ e ∷ flows = append_one before in
    let count = length-append before (e ∷ []) in
    let others = entries_stand gs table (before ++ e ∷ []) flows (rw more u) (omega (arith, l, count)) parts.1 in (
      record {
        flags = flags_known e.flow.flags;
        groups_there = groups_there gs e parts.0;
        unlike = before_unlike table before e flows u;
        room = omega (arith, l, length-map before (entry_text table));
      },
      rw (map-append (entry_text table) before (e ∷ [])) at others,
    )
  where
    append_one : (xs : List FlowEntry) → (xs ++ e ∷ []) ++ flows ≡ xs ++ e ∷ flows
    append_one [] = refl
    append_one (x ∷ xs) = ap (λ (ys : List FlowEntry). x ∷ ys) (append_one xs)

entries_headed : (table : ℕ) (flows : List FlowEntry) → AllByRecursion (λ (e : FlowEntry). IsKeptFlow (flow_kept table e.flow)) flows → AllByRecursion (IsHeaded table) (map (entry_text table) flows)
entries_headed table [] h = tt
entries_headed table (e ∷ flows) h = ((refl, h.0.head), entries_headed table flows h.1)

entries_are : (table : ℕ) (flows : List FlowEntry) → AllByRecursion (λ (e : FlowEntry). IsKeptFlow (flow_kept table e.flow)) flows → list_all (is_entry_fit table) flows ≡ true → list_all is_checked flows ≡ true → AllByRecursion (IsEntry table) (map (entry_text table) flows)
entries_are table [] h f c = tt
entries_are table (e ∷ flows) h f c =
    let fits = and_parts (is_entry_fit table e) (list_all (is_entry_fit table) flows) f in
    let checks = and_parts (is_checked e) (list_all is_checked flows) c in
    let leads = and_parts (are_kept e.flow.instructions) (are_for table e.flow.instructions) fits.0 in
    (record { fields = h.0.fields; kept = leads.0; leads_on = leads.1; checked = checks.0 }, entries_are table flows h.1 fits.1 checks.1)

table_kept : (gs : List Group) (table : ℕ) (flows : List FlowEntry) → AreSoundEntries table flows → AllByRecursion (λ (e : FlowEntry). IsKeptFlow (flow_kept table e.flow)) flows → list_all (names_existing_groups gs) flows ≡ true → AreKeptFlows (map group_text gs) table (map (entry_text table) flows)
table_kept gs table flows s k h = record {
  heads = entries_headed table flows k;
  entries = entries_are table flows k s.fit s.checked;
  stand = entries_stand gs table [] flows s.unlike (omega (arith, s.few)) h;
}

tables_kept : (gs : List Group) (k : ℕ) (ts : List Table) → ((j : ℕ) → j < length ts → AreSoundEntries (k + j) (slice_index_or ts j empty_table).flows) → AreKeptFrom k ts → list_all (all_name_existing_groups gs) ts ≡ true → AreKeptTables (map group_text gs) k (texts_from k ts)
tables_kept gs k [] s h n = tt
tables_kept gs k (t ∷ ts) s h n =
    let parts = and_parts (all_name_existing_groups gs t) (list_all (all_name_existing_groups gs) ts) n in
    let zero_is : k + 0 ≡ k = omega arith in
    let here : AreSoundEntries k t.flows = subst (λ (m : ℕ). AreSoundEntries m t.flows) zero_is (s 0 (omega arith)) in
    (table_kept gs k t.flows here h.0 parts.0, tables_kept gs (suc k) ts (λ j l. let is : k + suc j ≡ suc k + j = omega arith in subst (λ (m : ℕ). AreSoundEntries m (slice_index_or ts j empty_table).flows) is (s (suc j) (omega (arith, l)))) h.1 parts.1)

texts_length : (k : ℕ) (ts : List Table) → length (texts_from k ts) ≡ length ts
texts_length k [] = refl
texts_length k (t ∷ ts) = ap suc (texts_length (suc k) ts)

pub kept_config : (n : NumberedTables) (gs : List Group) (ports : List Port) (held : HeldFrames) (groups : List TextGroup) (tables : List (List TextFlow)) → length n.tables ≡ 16 → ((k : ℕ) → AreSoundEntries k (table_at k (tables_of n)).flows) → AreSoundGroups gs → GroupsExist (without_numbers n gs ports held)
    → groups ≡ map group_text gs → AllByRecursion Fits (rows_of_groups groups) → tables ≡ texts_from 0 (tables_of n).tables → AreKeptFrom 0 (tables_of n).tables → IsKeptConfig (record { groups = groups; tables = tables })
kept_config n gs ports held groups tables many sound groups_sound standing g fits t kept =
    let count : length (texts_from 0 (tables_of n).tables) ≡ 16 = texts_length 0 (tables_of n).tables ∙ (length-map n.tables table_of ∙ many) in
    let groups_are : AreKeptGroups (map group_text gs) = groups_kept gs groups_sound standing.numbers (rw g at fits) in
    let tables_are = tables_kept gs 0 (tables_of n).tables (λ j l. let zero_is : 0 + j ≡ j = omega arith in subst (λ (m : ℕ). AreSoundEntries m (table_at j (tables_of n)).flows) (sym zero_is) (sound j)) kept standing.entries in
    rw (g, t) (record { groups = groups_are; sixteen = count; tables = tables_are })

-- ---- table by table

pub texts_more : (j k : ℕ) (ts : List Table) (d : Table) → k < length ts → texts_from j (take (suc k) ts) ≡ texts_from j (take k ts) ++ table_text (j + k) (get_or ts k d) ∷ []
texts_more j k [] d l = absurd (omega (arith, l))
texts_more j zero (t ∷ ts) d l = let is : j + 0 ≡ j = omega arith in rw is refl
texts_more j (suc k) (t ∷ ts) d l =
    let is : j + suc k ≡ suc j + k = omega arith in
    rw is (ap (λ (x : List (List TextFlow)). table_text j t ∷ x) (texts_more (suc j) k ts d (omega (arith, l))))

pub kept_more : (j k : ℕ) (ts : List Table) (d : Table) → k < length ts → AreKeptEntries (j + k) (get_or ts k d) → AreKeptFrom j (take k ts) → AreKeptFrom j (take (suc k) ts)
kept_more j k [] d l e h = absurd (omega (arith, l))
kept_more j zero (t ∷ ts) d l e h = let is : j + 0 ≡ j = omega arith in (subst (λ (m : ℕ). AreKeptEntries m t) is e, tt)
kept_more j (suc k) (t ∷ ts) d l e h = let is : j + suc k ≡ suc j + k = omega arith in (h.0, kept_more (suc j) k ts d (omega (arith, l)) (subst (λ (m : ℕ). AreKeptEntries m (get_or ts k d)) is e) h.1)

-- ---- entry by entry

-- of the entries that are left, the first is put
pub entry_more : (table : ℕ) (old new : List FlowText) (x : FlowText) (e : Entry) (left rest : List Entry) (all : List TextFlow) → left ≡ e ∷ rest → view x ≡ flow_kept table e.flow → new ≡ old ++ x ∷ []
    → view_flows old ++ map (entry_text table) (flows_of left) ≡ all → view_flows new ++ map (entry_text table) (flows_of rest) ≡ all
entry_more table old new x e left rest all l v n h =
    let behind = map (entry_text table) (flows_of rest) in
    ap (λ (xs : List FlowText). view_flows xs ++ behind) n
    ∙ (ap (λ (xs : List TextFlow). xs ++ behind) (map-append view old (x ∷ []))
    ∙ (append_assoc (view_flows old) (view x ∷ []) behind
    ∙ (ap (λ (f : TextFlow). view_flows old ++ f ∷ behind) v
    ∙ (ap (λ (es : List Entry). view_flows old ++ map (entry_text table) (flows_of es)) (sym l) ∙ h))))

abbrev pub AreKept : ℕ → List Entry → Type 0
AreKept table es = AllByRecursion (λ (e : FlowEntry). IsKeptFlow (flow_kept table e.flow)) (flows_of es)

pub entry_kept : (table : ℕ) (e : Entry) (left rest all : List Entry) → left ≡ e ∷ rest → IsKeptFlow (flow_kept table e.flow) → (AreKept table left → AreKept table all) → AreKept table rest → AreKept table all
entry_kept table e left rest all l k h r = h (subst (AreKept table) (sym l) (k, r))

pub none_more : (table : ℕ) (made : List FlowText) (left : List Entry) (all : List TextFlow) → left ≡ [] → view_flows made ++ map (entry_text table) (flows_of left) ≡ all → view_flows made ≡ all
none_more table made left all l h = sym (append-nil (view_flows made)) ∙ (ap (λ (es : List Entry). view_flows made ++ map (entry_text table) (flows_of es)) (sym l) ∙ h)

pub all_kept : (table : ℕ) (left all : List Entry) → left ≡ [] → (AreKept table left → AreKept table all) → AreKept table all
all_kept table left all l h = h (subst (AreKept table) (sym l) tt)

-- one table more
pub table_more : (k : ℕ) (ns : List Numbered) (old new : List (Vec FlowText)) (x : Vec FlowText) → k < length ns → view_flows x.items ≡ map (entry_text k) (flows_of (slice_index_or ns k no_entries).entries) → new ≡ old ++ x ∷ []
    → view_tables old ≡ texts_from 0 (take k (map table_of ns)) → view_tables new ≡ texts_from 0 (take (k + 1) (map table_of ns))
table_more k ns old new x l v n h =
    let ts = map table_of ns in
    let within : k < length ts = omega (arith, l, length-map ns table_of) in
    let zero_is : 0 + k ≡ k = omega arith in
    let here : table_text k (get_or ts k empty_table) ≡ view_table x = ap (table_text k) (get_or-map table_of ns k no_entries) ∙ sym v in
    ap view_tables n
    ∙ (map-append view_table old (x ∷ [])
    ∙ (ap (λ (tt' : List (List TextFlow)). tt' ++ view_table x ∷ []) h
    ∙ (ap (λ (t : List TextFlow). texts_from 0 (take k ts) ++ t ∷ []) (sym here)
    ∙ rw add-one (sym (subst (λ (m : ℕ). texts_from 0 (take (suc k) ts) ≡ texts_from 0 (take k ts) ++ table_text m (get_or ts k empty_table) ∷ []) zero_is (texts_more 0 k ts empty_table within))))))

pub table_kept_more : (k : ℕ) (ns : List Numbered) → k < length ns → AreKept k (slice_index_or ns k no_entries).entries → AreKeptFrom 0 (take k (map table_of ns)) → AreKeptFrom 0 (take (k + 1) (map table_of ns))
table_kept_more k ns l e h =
    let ts = map table_of ns in
    let within : k < length ts = omega (arith, l, length-map ns table_of) in
    let zero_is : 0 + k ≡ k = omega arith in
    let here : AreKeptEntries k (get_or ts k empty_table) = subst (AreKeptEntries k) (sym (get_or-map table_of ns k no_entries)) e in
    rw add-one (kept_more 0 k ts empty_table within (subst (λ (m : ℕ). AreKeptEntries m (get_or ts k empty_table)) (sym zero_is) here) h)
