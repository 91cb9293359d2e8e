-- What a switch keeps is refused for nothing.
use Rattle.std.proofs.Common.{◌≡◌, ℕ, suc, ◌+◌, ◌<◌, ◌≤◌, eqb, Bool, true, false, List, [], ◌∷◌, ◌++◌, length, take, Option, Some, None, refl, sym, ◌∙◌, ap, arith}
use Rattle.std.specs.Prelude.{map, not, ◌&&◌, ◌||◌, nat_lt, nat_le, is_some, IfSome, unwrap_or, bit_and}
use Rattle.std.proofs.lemmas.Bool.{and_parts, and_from, eq-eqb, ne_eqb, leb-true}
use Rattle.std.{specs.List.AllByRecursion, specs.List.flat_map, specs.List.list_all, proofs.lemmas.Bool.Decides.nat_tests}
use Rattle.std.proofs.{lemmas.List.append-nil, lemmas.List.take_all, lemmas.List.length-map, lemmas.List.Elements.filter-append}
use Rattle.of_wire.specs.{declared.code.Code.Code, Refusals.first_of, Refusals.refusal}
use Rattle.of_layers.specs.{declared.field.Field.Field, Fields.ones_of, Fields.is_settable}
use Rattle.of_oxm.specs.{declared.match_field.MatchField.MatchField, MatchFieldWire.value_refusals, NormalForm.IsKept, NormalForm.IsKeptMask, NormalForm.IsMatch}
use Rattle.of_actions.specs.declared.instruction.Instruction.TheVariants.{Apply, Write, Goto}
use Rattle.of_actions.specs.{declared.action.Action.Action, declared.action.Action.TheVariants.Output, declared.action.Action.TheVariants.PushVlan, declared.action.Action.TheVariants.SetField}
use Rattle.of_actions.specs.{declared.instruction.Instruction.Instruction, PortNumbers.is_port, FlowCheck.all_go_with, Rising.is_ascending, Supported.is_supported, Supported.are_supported}
use Rattle.of_actions.specs.InstructionLists.{is_served_body, is_for, run_place}
use Rattle.of_groups.specs.{declared.group.Group.Group, Buckets.any_sends, Buckets.are_fit, Buckets.is_fit, Groups.any_watches, Chains.AreShort, Chains.chain}
use Rattle.of_groups.{specs.Faults.is_absent, specs.Faults.is_bad_watch, specs.Faults.is_not_one, specs.Sound.is_fit_group, specs.Sound.is_whole, proofs.ChainLaws.chain_at_most}
use Rattle.of_text.specs.Groups.{TextBucket, TextGroup, bucket_of, buckets_of, group_at, groups_at}
use Rattle.of_text.specs.Refusals.{text_field_refusals, text_action_refusals, list_refusals, instruction_refusals, goto_refusals, match_refusals, instructions_refusals, flow_refusals, table_refusals, buckets_refusals, group_refusals, naming_refusals, there_from, all_there}
use Rattle.of_text.specs.Kept.{IsKeptFlow, IsEntry, StandsBehind, AllStandBehind, AreKeptGroups}
use Rattle.of_text.specs.Configs.{Configuration, IsConfig, all_flows, tables_from, tables_of_flows}
use Rattle.of_text.proofs.ConfigLemmas.{Stand, AllFor, stands_on, same_tables, both_stand}
use Rattle.of_text.specs.{Flows.Flow, Flows.text_rows, Texts.AreRows, First.flows_for, First.refused_from, First.refused_group}
use Rattle.of_text.{specs.KeptConfigs.IsHeaded, specs.KeptConfigs.AreKeptTables, specs.KeptConfigs.IsKeptConfig, proofs.RefusalLemmas.first_append, proofs.GroupLemmas.kept_rows}

-- ---- none applies

none_joined : (xs ys : List (Bool × Code)) → first_of xs ≡ None → first_of ys ≡ None → first_of (xs ++ ys) ≡ None
none_joined xs ys h k = first_append xs ys ∙ rw (h, k) refl

none_all : {X : Type 0} (f : X → List (Bool × Code)) (xs : List X) → AllByRecursion (λ x. first_of (f x) ≡ None) xs → first_of (flat_map f xs) ≡ None
none_all f [] h = refl
none_all f (x ∷ xs) h = none_joined (f x) (flat_map f xs) h.0 (none_all f xs h.1)

all_true : {X : Type 0} (P : X → Type 0) (p : X → Bool) → ((x : X) → p x ≡ true → P x) → (xs : List X) → list_all p xs ≡ true → AllByRecursion P xs
all_true P p f [] h = tt
all_true P p f (x ∷ xs) h = let parts = and_parts (p x) (list_all p xs) h in (f x parts.0, all_true P p f xs parts.1)

not_above : (n m : ℕ) → m ≤ n → nat_lt n m ≡ false
not_above n m h = grind (arith, nat_tests)

not_reached : (n m : ℕ) → m < n → nat_le n m ≡ false
not_reached n m h = grind (arith, nat_tests)

-- ---- matches

mask_stands : (f : Field) (v : ℕ) (mask : Option ℕ) → v ≤ ones_of f → IfSome mask (IsKeptMask f v) → first_of (value_refusals f (is_some mask) v (unwrap_or mask 0)) ≡ None
mask_stands f v None l h = rw (not_above (ones_of f) v l) refl
mask_stands f v (Some m) l h = rw (h.maskable, not_above (ones_of f) v l, eq-eqb (bit_and v m) v h.covers) refl

field_stands : (e : MatchField) → IsKept e → first_of (text_field_refusals e) ≡ None
field_stands e h = mask_stands e.field e.value e.mask h.value h.mask

fields_stand : (m : List MatchField) → AllByRecursion IsKept m → AllByRecursion (λ e. first_of (text_field_refusals e) ≡ None) m
fields_stand [] h = tt
fields_stand (e ∷ es) h = (field_stands e h.0, fields_stand es h.1)

match_stands : (m : List MatchField) → IsMatch m → first_of (match_refusals m) ≡ None
unfolding match_refusals
match_stands m h = none_joined (flat_map text_field_refusals m) _ (none_all text_field_refusals m (fields_stand m h.each)) (rw h.met refl)

-- ---- instructions

action_stands : (a : Action) → is_supported false a ≡ true → first_of (text_action_refusals a) ≡ None
unfolding is_supported
action_stands (Output p m) h = rw (and_parts (is_port false p) (nat_lt m 0x10000) h).0 refl
action_stands (PushVlan t) h = rw h refl
action_stands (SetField f v) h =
    let parts = and_parts (is_settable f) (nat_le v (ones_of f)) h in
    rw (parts.0, not_above (ones_of f) v (leb-true v (ones_of f) parts.1)) refl
action_stands other h = refl

list_stands : (xs : List Action) → are_supported false xs ≡ true → first_of (list_refusals xs) ≡ None
unfolding list_refusals
list_stands xs h =
    let parts = and_parts (nat_le (length xs) 64) (list_all (is_supported false) xs) h in
    let few : length xs ≤ 64 = leb-true (length xs) 64 parts.0 in
    let each : first_of (flat_map text_action_refusals (take 64 xs)) ≡ None =
    ap (λ (ys : List Action). first_of (flat_map text_action_refusals ys)) (take_all 64 xs few)
    ∙ none_all text_action_refusals xs (all_true (λ a. first_of (text_action_refusals a) ≡ None) (is_supported false) action_stands xs parts.1) in
    none_joined (flat_map text_action_refusals (take 64 xs)) _ each (rw (not_above 64 (length xs) few) refl)

instruction_stands : (s : Instruction) → is_served_body s ≡ true → first_of (instruction_refusals s) ≡ None
unfolding instruction_refusals
instruction_stands (Apply xs) h = list_stands xs h
instruction_stands (Write xs) h = list_stands xs h
instruction_stands other h = refl

goto_stands : (table : ℕ) (s : Instruction) → is_served_body s ≡ true → is_for table s ≡ true → first_of (goto_refusals table s) ≡ None
goto_stands table (Goto to) h k = rw (and_from (nat_lt table to) (nat_lt to 16) k h) refl
goto_stands table other h k = refl

instructions_stand : (ss : List Instruction) → list_all is_served_body ss ≡ true → AllByRecursion (λ s. first_of (instruction_refusals s) ≡ None) ss
instructions_stand [] h = tt
instructions_stand (s ∷ ss) h = let parts = and_parts (is_served_body s) (list_all is_served_body ss) h in (instruction_stands s parts.0, instructions_stand ss parts.1)

gotos_stand : (table : ℕ) (ss : List Instruction) → list_all is_served_body ss ≡ true → list_all (is_for table) ss ≡ true → AllByRecursion (λ s. first_of (goto_refusals table s) ≡ None) ss
gotos_stand table [] h k = tt
gotos_stand table (s ∷ ss) h k =
    let served = and_parts (is_served_body s) (list_all is_served_body ss) h in
    let leads = and_parts (is_for table s) (list_all (is_for table) ss) k in
    (goto_stands table s served.0 leads.0, gotos_stand table ss served.1 leads.1)

-- ---- flows

flow_stands : (table : ℕ) (f : Flow) → f.head.table ≡ table → table < 16 → IsEntry table f → bit_and f.head.flags 25 ≡ f.head.flags → first_of (flow_refusals f) ≡ None
unfolding flow_refusals instructions_refusals
flow_stands table f t l h flags =
    let served = (and_parts (is_ascending run_place f.instructions) (list_all is_served_body f.instructions) h.kept).1 in
    let low : nat_lt 15 f.head.table ≡ false = not_above 15 f.head.table (omega (arith, t, l)) in
    let known : eqb (bit_and f.head.flags 25) f.head.flags ≡ true = eq-eqb (bit_and f.head.flags 25) f.head.flags flags in
    let gotos : first_of (flat_map (goto_refusals f.head.table) f.instructions) ≡ None = rw t (none_all (goto_refusals table) f.instructions (gotos_stand table f.instructions served h.leads_on)) in
    let lists = none_all instruction_refusals f.instructions (instructions_stand f.instructions served) in
    let check : first_of ((not (all_go_with f.fields f.instructions), refusal 2 10) ∷ []) ≡ None = rw h.checked refl in
    let instructions = none_joined (flat_map (goto_refusals f.head.table) f.instructions) _ gotos (none_joined (flat_map instruction_refusals f.instructions) _ lists check) in
    let behind = none_joined (match_refusals f.fields) _ (match_stands f.fields h.fields) instructions in
    rw (low, known) behind

behind_stands : (gs : List TextGroup) (before : List Flow) (f : Flow) → StandsBehind gs before f → first_of (table_refusals gs before f) ≡ None
unfolding table_refusals
behind_stands gs before f h = rw (h.groups_there, h.unlike, not_reached 4096 (length before) h.room) refl

table_stands : (gs : List TextGroup) (table : ℕ) (before fs : List Flow) → table < 16 → AllByRecursion (IsHeaded table) fs → AllByRecursion (IsEntry table) fs → AllStandBehind gs before fs → Stand gs before fs
unfolding Stand
table_stands gs table before [] l a e h = tt
table_stands gs table before (f ∷ fs) l a e h =
    (none_joined (flow_refusals f) (table_refusals gs before f) (flow_stands table f a.0.0 l e.0 h.0.flags) (behind_stands gs before f h.0), table_stands gs table (before ++ f ∷ []) fs l a.1 e.1 h.1)

-- ---- tables

abbrev is_in : ℕ → Flow → Bool
is_in table f = eqb f.head.table table

numbered : (table : ℕ) (fs : List Flow) → AllByRecursion (IsHeaded table) fs → AllFor table fs
numbered table [] h = tt
numbered table (f ∷ fs) h = (h.0.0, numbered table fs h.1)

all_mine : (table : ℕ) (fs : List Flow) → AllFor table fs → flows_for table fs ≡ fs
all_mine table [] h = refl
all_mine table (f ∷ fs) h = rw (eq-eqb f.head.table table h.0) (ap (λ (xs : List Flow). f ∷ xs) (all_mine table fs h.1))

none_mine : (t u : ℕ) → (t ≡ u → ⊥) → (fs : List Flow) → AllFor t fs → flows_for u fs ≡ []
none_mine t u apart [] h = refl
none_mine t u apart (f ∷ fs) h =
    let is : f.head.table ≡ t = h.0 in
    rw (ne_eqb f.head.table u (λ i. apart (sym is ∙ i))) (none_mine t u apart fs h.1)

none_later : (gs : List TextGroup) (k u : ℕ) → u < k → (ts : List (List Flow)) → AreKeptTables gs k ts → flows_for u (all_flows ts) ≡ []
none_later gs k u l [] h = refl
none_later gs k u l (t ∷ ts) h =
    filter-append (is_in u) t (all_flows ts)
    ∙ rw (none_mine k u (λ i. omega (arith, i, l)) t (numbered k t h.0.heads), none_later gs (suc k) u (omega (arith, l)) ts h.1) refl

tables_again : (gs : List TextGroup) (k : ℕ) (ts : List (List Flow)) → AreKeptTables gs k ts → tables_from (length ts) k (all_flows ts) ≡ ts
tables_again gs k [] h = refl
tables_again gs k (t ∷ ts) h =
    let mine = numbered k t h.0.heads in
    let first : flows_for k (t ++ all_flows ts) ≡ t = filter-append (is_in k) t (all_flows ts) ∙ rw (all_mine k t mine, none_later gs (suc k) k (omega arith) ts h.1) (append-nil t) in
    let later : tables_from (length ts) (suc k) (t ++ all_flows ts) ≡ tables_from (length ts) (suc k) (all_flows ts) =
    same_tables (length ts) (suc k) (all_flows ts) (t ++ all_flows ts) (λ u l m. filter-append (is_in u) t (all_flows ts) ∙ rw (none_mine k u (λ i. omega (arith, i, l)) t mine) refl) in
    rw (first, later, tables_again gs (suc k) ts h.1) refl

tables_stand : (gs : List TextGroup) (k : ℕ) (ts : List (List Flow)) (before : List Flow) → k + length ts ≤ 16 → ((u : ℕ) → k ≤ u → flows_for u before ≡ []) → AreKeptTables gs k ts → refused_from gs before (all_flows ts) ≡ None
tables_stand gs k [] before l e h = refl
tables_stand gs k (t ∷ ts) before l e h =
    let mine = numbered k t h.0.heads in
    let here : Stand gs (flows_for k before) t = rw (e k (omega arith)) (table_stands gs k [] t (omega (arith, l)) h.0.heads h.0.entries h.0.stand) in
    stands_on gs k before t (all_flows ts) mine here
    ∙ tables_stand gs (suc k) ts (before ++ t) (omega (arith, l)) (λ u m. filter-append (is_in u) before t ∙ rw (e u (omega (arith, m)), none_mine k u (λ i. omega (arith, i, m)) t mine) refl) h.1

-- ---- lines

flows_kept : (table : ℕ) (fs rest : List Flow) → AllByRecursion (IsHeaded table) fs → AllByRecursion (IsEntry table) fs → AllByRecursion IsKeptFlow rest → AllByRecursion IsKeptFlow (fs ++ rest)
flows_kept table [] rest a e k = k
flows_kept table (f ∷ fs) rest a e k = (record { head = a.0.1; fields = e.0.fields; instructions = e.0.kept }, flows_kept table fs rest a.1 e.1 k)

tables_kept : (gs : List TextGroup) (k : ℕ) (ts : List (List Flow)) → AreKeptTables gs k ts → AllByRecursion IsKeptFlow (all_flows ts)
tables_kept gs k [] h = tt
tables_kept gs k (t ∷ ts) h = flows_kept k t (all_flows ts) h.0.heads h.0.entries (tables_kept gs (suc k) ts h.1)

kept_lines : (c : Configuration) → IsKeptConfig c → AreRows (text_rows c.groups (all_flows c.tables))
kept_lines c k = kept_rows c.groups (all_flows c.tables) k.groups (tables_kept c.groups 0 c.tables k.tables)

-- ---- groups

each_list : (bs : List TextBucket) → list_all is_fit (map bucket_of bs) ≡ true → AllByRecursion (λ (b : TextBucket). first_of (list_refusals b.actions) ≡ None) bs
each_list [] h = tt
each_list (b ∷ bs) h = let parts = and_parts (are_supported false b.actions) (list_all is_fit (map bucket_of bs)) h in (list_stands b.actions parts.0, each_list bs parts.1)

buckets_stand : (bs : List TextBucket) → are_fit (map bucket_of bs) ≡ true → first_of (buckets_refusals bs) ≡ None
unfolding buckets_refusals
buckets_stand bs h =
    let parts = and_parts (nat_le (length (map bucket_of bs)) 16) (list_all is_fit (map bucket_of bs)) h in
    let few : length bs ≤ 16 = omega (arith, leb-true (length (map bucket_of bs)) 16 parts.0, length-map bs bucket_of) in
    let each : first_of (flat_map (λ (b : TextBucket). list_refusals b.actions) (take 16 bs)) ≡ None =
    ap (λ (ys : List TextBucket). first_of (flat_map (λ (b : TextBucket). list_refusals b.actions) ys)) (take_all 16 bs few)
    ∙ none_all (λ (b : TextBucket). list_refusals b.actions) bs (each_list bs parts.1) in
    none_joined (flat_map (λ (b : TextBucket). list_refusals b.actions) (take 16 bs)) _ each (rw (not_above 16 (length bs) few) refl)

not_true : (b : Bool) → not b ≡ true → b ≡ false
not_true true h = absurd cc
not_true false h = refl

group_stands : (place : ℕ) (g : TextGroup) → place < 256 → g.head.id ≤ 0xffffff00 → is_fit_group (group_at 0 g) ≡ true → first_of (group_refusals place g) ≡ None
unfolding group_refusals
group_stands place g room low h =
    let last = and_parts (are_fit (buckets_of g) && not (is_bad_watch g.head.kind (buckets_of g))) (not (is_not_one g.head.kind (buckets_of g))) h in
    let first = and_parts (are_fit (buckets_of g)) (not (is_bad_watch g.head.kind (buckets_of g))) last.0 in
    let watch : is_bad_watch g.head.kind (buckets_of g) ≡ false = not_true _ first.1 in
    let one : is_not_one g.head.kind (buckets_of g) ≡ false = not_true _ last.1 in
    let behind : first_of ((is_bad_watch g.head.kind (buckets_of g), refusal 6 13) ∷ (is_not_one g.head.kind (buckets_of g), refusal 6 1) ∷ (nat_le 256 place, refusal 6 3) ∷ []) ≡ None = rw (watch, one, not_reached 256 place room) refl in
    rw (not_above 0xffffff00 g.head.id low) (none_joined (buckets_refusals g.buckets) _ (buckets_stand g.buckets first.0) behind)

none_either : (a b : Bool) → (a || b) ≡ false → (a ≡ false) × (b ≡ false)
none_either true b h = absurd cc
none_either false b h = (refl, h)

names_stand : (there : List Group) (g : TextGroup) → AreShort there → is_whole there (group_at 0 g) ≡ true → first_of (naming_refusals there g) ≡ None
unfolding naming_refusals
names_stand there g short h =
    let parts = none_either (any_sends (is_absent there) (buckets_of g)) (any_watches (is_absent there) g.head.kind (buckets_of g)) (not_true _ h) in
    rw (parts.0, parts.1, not_above 3 (chain there g.head.id) (chain_at_most there g.head.id short)) refl

there_again : (place : ℕ) (gs : List TextGroup) → place + length gs ≤ 256 → AllByRecursion (λ (g : TextGroup). g.head.id ≤ 0xffffff00) gs → list_all is_fit_group (groups_at 0 gs) ≡ true → there_from place gs ≡ groups_at 0 gs
there_again place [] l n h = refl
there_again place (g ∷ gs) l n h =
    let parts = and_parts (is_fit_group (group_at 0 g)) (list_all is_fit_group (groups_at 0 gs)) h in
    rw (group_stands place g (omega (arith, l)) n.0 parts.0, there_again (place + 1) gs (omega (arith, l)) n.1 parts.1) refl

groups_stand : (there : List Group) (place : ℕ) (gs : List TextGroup) → place + length gs ≤ 256 → AreShort there → AllByRecursion (λ (g : TextGroup). g.head.id ≤ 0xffffff00) gs → list_all is_fit_group (groups_at 0 gs) ≡ true → list_all (is_whole there) (groups_at 0 gs) ≡ true → refused_group there place gs ≡ None
groups_stand there place [] l s n h w = refl
groups_stand there place (g ∷ gs) l s n h w =
    let parts = and_parts (is_fit_group (group_at 0 g)) (list_all is_fit_group (groups_at 0 gs)) h in
    let whole = and_parts (is_whole there (group_at 0 g)) (list_all (is_whole there) (groups_at 0 gs)) w in
    rw (none_joined (group_refusals place g) (naming_refusals there g) (group_stands place g (omega (arith, l)) n.0 parts.0) (names_stand there g s whole.0))
    (groups_stand there (place + 1) gs (omega (arith, l)) s n.1 parts.1 whole.1)

kept_groups_stand : (gs : List TextGroup) → AreKeptGroups gs → refused_group (all_there gs) 0 gs ≡ None
kept_groups_stand gs k =
    let few : 0 + length gs ≤ 256 = omega (arith, k.sound.few, length-map gs (group_at 0)) in
    let same : all_there gs ≡ groups_at 0 gs = there_again 0 gs few k.numbers k.sound.fit in
    ap (λ (there : List Group). refused_group there 0 gs) same ∙ groups_stand (groups_at 0 gs) 0 gs few k.sound.short k.numbers k.sound.fit k.sound.whole

-- ---- configurations

pub kept_config : (c : Configuration) → IsKeptConfig c → IsConfig c
unfolding tables_of_flows
kept_config c k = record {
  flows = all_flows c.tables;
  rows = kept_lines c k;
  stand = both_stand c.groups (all_flows c.tables) (kept_groups_stand c.groups k.groups) (tables_stand c.groups 0 c.tables [] (omega (arith, k.sixteen)) (λ u l. refl) k.tables);
  filled = sym (tables_again c.groups 0 c.tables k.tables) ∙ ap (λ (n : ℕ). tables_from n 0 (all_flows c.tables)) k.sixteen;
}
