-- Each group that an entry names exists, whatever happens.
use Rattle.std.proofs.Common.{◌≡◌, ℕ, zero, suc, ◌<◌, ◌≤◌, eqb, ltb, Bool, true, false, not, cond, List, [], ◌∷◌, ◌++◌, length, get_or, Option, Some, None, refl, sym, ◌∙◌, ap, subst, arith}
use Rattle.std.specs.Prelude.{◌||◌, map, filter, find, slice_index_or}
use Rattle.std.proofs.lemmas.Bool.{and_parts, and_from, eqb-true, eq-eqb, le-leb}
use Rattle.std.{specs.List.AllByRecursion, specs.List.list_all, specs.List.list_any, proofs.Math.Path.fun_ext}
use Rattle.of_wire.specs.Numbered.{without}
use Rattle.of_actions.specs.{declared.action.Action.Action, declared.action.Action.TheVariants.Group as ToGroup, declared.instruction.Instruction.Instruction}
use Rattle.of_actions.specs.declared.instruction.Instruction.TheVariants as instructions
use Rattle.of_groups.specs.Groups.{group_number, is_there, with_group, groups_left, at_group}
use Rattle.of_groups.{specs.declared.group.Group.Group, specs.Buckets.sends, specs.Faults.is_absent, proofs.PutLemmas.there_with}
use Rattle.of_table.specs.Table.{FlowEntry, Table, empty_table, is_same, with_flow, added, counted_at, looked, matched_at}
use Rattle.of_table.specs.Selecting.{has_action, is_to, names_group, stays, modifies, modified_by}
use Rattle.of_table.specs.Tables.{Tables, table_at, with_table, added_to, each_from, modified_table, modified_in, concerns, cause_at, left_table, left_in, is_in, looked_in, matched_in}
use Rattle.of_table.specs.{declared.flow.Flow.Flow, declared.selection.Selector.Selector, declared.selection.Cause.Cause, declared.selection.Cause.TheVariants.Group as OfGroup}
use Rattle.of_table.proofs.Soundness.{all-filter, all-set}
use Rattle.of_machine.specs.declared.data.Count.TheVariants.{Lookup, Matched, TxDropped, Group as GroupUse, Bucket}
use Rattle.of_machine.specs.{declared.data.Count.Count, declared.data.Packet.Packet, Rows.Work, Rows.Lookup as LookUp, Rows.entering, Runs.Machine, Runs.run_of}
use Rattle.of_ports.specs.{declared.port.Port.Port, declared.counters.PortCount.TheVariants.Received, Ports.may_receive, Ports.port_at}
use Rattle.of_text.specs.{Flows.Flow as TextFlow, Groups.TextGroup, Groups.groups_at, Refusals.names_absent, Kept.AllStandBehind, Configs.Configuration, Configs.IsConfig}
use Rattle.of_text.proofs.{EntryLemmas.config_stands, FillLemmas.sixteen, GroupLemmas.config_groups, SoundLemmas.absent_same}
use Rattle.of_datapath.specs.Datapath.{Forwarding, world_of, applied, arriving, count_port, framed, taken_in, through, tallied, all_tallied, sent, all_sent}
use Rattle.of_datapath.specs.{declared.effect.Effect.Effect, declared.effect.Effect.TheVariants.Sent}
use Rattle.of_datapath.specs.{declared.control.AsyncConfig.AsyncConfig, Told.effects_of, Told.held_after, Commands.names_absent_group}
use Rattle.of_datapath.specs.{Loading.loaded_entry, Loading.loaded_table, Loading.loaded_tables, Buffers.HeldFrames}
use Rattle.of_datapath.specs.Standing.{names_existing_groups, all_name_existing_groups, is_numbered, GroupsExist}
use Rattle.of_headers.specs.{declared.headers.FrameFault.FrameFault, Faults.frame_fault}

-- ---- tests

not_true : (b : Bool) → not b ≡ true → b ≡ false
not_true true h = absurd cc
not_true false h = refl

not_false : (b : Bool) → b ≡ false → not b ≡ true
not_false b e = rw e refl

either : (a b : Bool) → (a || b) ≡ false → (a ≡ false) × (b ≡ false)
either true b h = absurd cc
either false b h = (refl, h)

any_either : {X : Type 0} (p q r : X → Bool) → ((x : X) → p x ≡ false → r x ≡ false → q x ≡ false) → (xs : List X) → list_any p xs ≡ false → list_any r xs ≡ false → list_any q xs ≡ false
any_either p q r f [] h k = refl
any_either p q r f (x ∷ xs) h k =
    let a = either (p x) (list_any p xs) h in
    let b = either (r x) (list_any r xs) k in
    rw (f x a.0 b.0, any_either p q r f xs a.1 b.1) refl

has_either : (p q r : Action → Bool) → ((a : Action) → p a ≡ false → r a ≡ false → q a ≡ false) → (i : Instruction) → has_action p i ≡ false → has_action r i ≡ false → has_action q i ≡ false
has_either p q r f (instructions.Apply xs) h k = any_either p q r f xs h k
has_either p q r f (instructions.Write xs) h k = any_either p q r f xs h k
has_either p q r f other h k = refl

all_so : {X : Type 0} (p q : X → Bool) → ((x : X) → p x ≡ true → q x ≡ true) → (xs : List X) → list_all p xs ≡ true → list_all q xs ≡ true
all_so p q f [] h = refl
all_so p q f (x ∷ xs) h = let parts = and_parts (p x) (list_all p xs) h in and_from _ _ (f x parts.0) (all_so p q f xs parts.1)

all_mapped : {X : Type 0} (p q : X → Bool) (g : X → X) → ((x : X) → p x ≡ true → q (g x) ≡ true) → (xs : List X) → list_all p xs ≡ true → list_all q (map g xs) ≡ true
all_mapped p q g f [] h = refl
all_mapped p q g f (x ∷ xs) h = let parts = and_parts (p x) (list_all p xs) h in and_from _ _ (f x parts.0) (all_mapped p q g f xs parts.1)

all_joined : {X : Type 0} (p : X → Bool) (xs ys : List X) → list_all p xs ≡ true → list_all p ys ≡ true → list_all p (xs ++ ys) ≡ true
all_joined p [] ys h k = k
all_joined p (x ∷ xs) ys h k = let parts = and_parts (p x) (list_all p xs) h in and_from _ _ parts.0 (all_joined p xs ys parts.1 k)

all_left : {X : Type 0} (p q r : X → Bool) → ((x : X) → p x ≡ true → q x ≡ true → r x ≡ true) → (xs : List X) → list_all p xs ≡ true → list_all r (filter q xs) ≡ true
all_left p q r f [] h = refl
all_left p q r f (x ∷ xs) h = let parts = and_parts (p x) (list_all p xs) h in by_test (f x parts.0) (all_left p q r f xs parts.1) (q x) refl
  where
    by_test : (q x ≡ true → r x ≡ true) → list_all r (filter q xs) ≡ true → (b : Bool) → q x ≡ b → list_all r (cond (q x) (x ∷ filter q xs) (filter q xs)) ≡ true
    by_test one others true e = rw e (and_from _ _ (one e) others)
    by_test one others false e = rw e others

all_at : {X : Type 0} (p : X → Bool) (xs : List X) (k : ℕ) (d : X) → list_all p xs ≡ true → p d ≡ true → p (get_or xs k d) ≡ true
all_at p [] k d h e = e
all_at p (x ∷ xs) zero d h e = (and_parts (p x) (list_all p xs) h).0
all_at p (x ∷ xs) (suc k) d h e = all_at p xs k d (and_parts (p x) (list_all p xs) h).1 e

-- ---- tables

abbrev Stand : List Group → Tables → Type 0
Stand gs ts = list_all (all_name_existing_groups gs) ts.tables ≡ true

set_stands : (gs : List Group) (k : ℕ) (t : Table) (ts : Tables) → Stand gs ts → all_name_existing_groups gs t ≡ true → Stand gs (with_table k t ts)
set_stands gs k t ts h e = all-set (all_name_existing_groups gs) ts.tables k t h e

at_stands : (gs : List Group) (k : ℕ) (ts : Tables) → Stand gs ts → all_name_existing_groups gs (table_at k ts) ≡ true
at_stands gs k ts h = all_at (all_name_existing_groups gs) ts.tables k empty_table h refl

looked_stands : (gs : List Group) (k : ℕ) (ts : Tables) → Stand gs ts → Stand gs (looked_in k ts)
looked_stands gs k ts h = set_stands gs k (looked (table_at k ts)) ts h (at_stands gs k ts h)

counted_stands : (gs : List Group) (now place bytes : ℕ) (flows : List FlowEntry) → list_all (names_existing_groups gs) flows ≡ true → list_all (names_existing_groups gs) (counted_at now place bytes flows) ≡ true
counted_stands gs now place bytes [] h = refl
counted_stands gs now zero bytes (e ∷ flows) h = h
counted_stands gs now (suc place) bytes (e ∷ flows) h = let parts = and_parts (names_existing_groups gs e) (list_all (names_existing_groups gs) flows) h in and_from _ _ parts.0 (counted_stands gs now place bytes flows parts.1)

matched_stands : (gs : List Group) (k place bytes : ℕ) (ts : Tables) → Stand gs ts → Stand gs (matched_in k place bytes ts)
matched_stands gs k place bytes ts h = set_stands gs k (matched_at ts.latest place bytes (table_at k ts)) ts h (counted_stands gs ts.latest place bytes (table_at k ts).flows (at_stands gs k ts h))

entry_stands : (gs : List Group) (now : ℕ) (flow : Flow) (o : Option FlowEntry) → names_absent_group gs flow.instructions ≡ false → names_existing_groups gs (with_flow now flow o) ≡ true
entry_stands gs now flow None h = not_false _ h
entry_stands gs now flow (Some e) h = not_false _ h

added_stands : (gs : List Group) (k : ℕ) (flow : Flow) (ts : Tables) → names_absent_group gs flow.instructions ≡ false → Stand gs ts → Stand gs (added_to k flow ts)
added_stands gs k flow ts h s =
    let flows = (table_at k ts).flows in
    let others = all-filter (names_existing_groups gs) (λ (e : FlowEntry). not (is_same flow e)) flows (at_stands gs k ts s) in
    let one : list_all (names_existing_groups gs) (with_flow ts.latest flow (find (is_same flow) flows) ∷ []) ≡ true = and_from _ _ (entry_stands gs ts.latest flow (find (is_same flow) flows) h) refl in
    set_stands gs k (record (table_at k ts) { flows = added ts.latest flow flows }) ts s (all_joined (names_existing_groups gs) (filter (λ (e : FlowEntry). not (is_same flow e)) flows) _ others one)

each_stands : (gs hs : List Group) (f : ℕ → Table → Table) → ((k : ℕ) (t : Table) → all_name_existing_groups gs t ≡ true → all_name_existing_groups hs (f k t) ≡ true) → (k : ℕ) (ts : List Table) → list_all (all_name_existing_groups gs) ts ≡ true → list_all (all_name_existing_groups hs) (each_from f k ts) ≡ true
each_stands gs hs f step k [] h = refl
each_stands gs hs f step k (t ∷ ts) h = let parts = and_parts (all_name_existing_groups gs t) (list_all (all_name_existing_groups gs) ts) h in and_from _ _ (step k t parts.0) (each_stands gs hs f step (suc k) ts parts.1)

modified_one : (gs : List Group) (w : Selector) (is : List Instruction) (reset : Bool) → names_absent_group gs is ≡ false → (e : FlowEntry) → names_existing_groups gs e ≡ true → names_existing_groups gs (modified_by w is reset e) ≡ true
modified_one gs w is reset h e s = by_test (modifies w e) refl
  where
    by_test : (b : Bool) → modifies w e ≡ b → names_existing_groups gs (modified_by w is reset e) ≡ true
    by_test true t = rw t (not_false _ h)
    by_test false t = rw t s

modified_stands : (gs : List Group) (w : Selector) (is : List Instruction) (reset : Bool) (ts : Tables) → names_absent_group gs is ≡ false → Stand gs ts → Stand gs (modified_in w is reset ts)
modified_stands gs w is reset ts h s = each_stands gs gs (modified_table w is reset) one 0 ts.tables s
  where
    one : (k : ℕ) (t : Table) → all_name_existing_groups gs t ≡ true → all_name_existing_groups gs (modified_table w is reset k t) ≡ true
    one k t e = by_test (is_in w.table k) refl
      where
        by_test : (b : Bool) → is_in w.table k ≡ b → all_name_existing_groups gs (modified_table w is reset k t) ≡ true
        by_test true i = rw i (all_mapped (names_existing_groups gs) (names_existing_groups gs) (modified_by w is reset) (modified_one gs w is reset h) t.flows e)
        by_test false i = rw i e

left_one : (gs : List Group) (cause : Cause) (k : ℕ) (t : Table) → all_name_existing_groups gs t ≡ true → all_name_existing_groups gs (left_table cause k t) ≡ true
left_one gs cause k t h = by_test (concerns cause k) refl
  where
    by_test : (b : Bool) → concerns cause k ≡ b → all_name_existing_groups gs (left_table cause k t) ≡ true
    by_test true i = rw i (all-filter (names_existing_groups gs) (stays cause) t.flows h)
    by_test false i = rw i h

left_stands : (gs : List Group) (cause : Cause) (ts : Tables) → Stand gs ts → Stand gs (left_in cause ts)
left_stands gs cause ts h = each_stands gs gs (left_table (cause_at ts.latest cause)) (left_one gs (cause_at ts.latest cause)) 0 ts.tables h

-- ---- groups

-- a group of another group's number exists as that does
there_mapped : (f : Group → Group) → ((g : Group) → (f g).id ≡ g.id) → (n : ℕ) (gs : List Group) → is_there n (map f gs) ≡ is_there n gs
there_mapped f same n [] = refl
there_mapped f same n (g ∷ gs) = rw (same g, there_mapped f same n gs) refl

pub absent_mapped : (f : Group → Group) → ((g : Group) → (f g).id ≡ g.id) → (gs : List Group) → is_absent (map f gs) ≡ is_absent gs
absent_mapped f same gs = fun_ext (λ n. ap not (there_mapped f same n gs))

numbers_mapped : (f : Group → Group) → ((g : Group) → (f g).id ≡ g.id) → (gs : List Group) → list_all is_numbered (map f gs) ≡ list_all is_numbered gs
numbers_mapped f same [] = refl
numbers_mapped f same (g ∷ gs) = rw (same g, numbers_mapped f same gs) refl

at_same : (n : ℕ) (change : Group → Group) → ((g : Group) → (change g).id ≡ g.id) → (g : Group) → (cond (eqb g.id n) (change g) g).id ≡ g.id
at_same n change same g = by_test (eqb g.id n)
  where
    by_test : (b : Bool) → (cond b (change g) g).id ≡ g.id
    by_test true = same g
    by_test false = refl

-- groups of the same numbers
swapped : (hs : List Group) (f : Forwarding) → is_absent hs ≡ is_absent f.groups → list_all is_numbered hs ≡ list_all is_numbered f.groups → GroupsExist f → GroupsExist (record f { groups = hs })
swapped hs f a n k = record {
  entries = ap (λ (p : ℕ → Bool). list_all (λ (t : Table). list_all (λ (e : FlowEntry). not (list_any (has_action (sends p)) e.flow.instructions)) t.flows) f.tables.tables) a ∙ k.entries;
  numbers = n ∙ k.numbers;
}

changed_at : (n : ℕ) (change : Group → Group) → ((g : Group) → (change g).id ≡ g.id) → (f : Forwarding) → GroupsExist f → GroupsExist (record f { groups = at_group n change f.groups })
changed_at n change same f k =
    let g : Group → Group = λ (x : Group). cond (eqb x.id n) (change x) x in
    swapped (at_group n change f.groups) f (absent_mapped g (at_same n change same) f.groups) (numbers_mapped g (at_same n change same) f.groups) k

sends_less : (p q : ℕ → Bool) → ((n : ℕ) → p n ≡ false → q n ≡ false) → (a : Action) → sends p a ≡ false → sends p a ≡ false → sends q a ≡ false
sends_less p q f (ToGroup n) h k = f n h
sends_less p q f other h k = refl

entry_less : (gs hs : List Group) → ((n : ℕ) → is_absent gs n ≡ false → is_absent hs n ≡ false) → (e : FlowEntry) → names_existing_groups gs e ≡ true → names_existing_groups hs e ≡ true
entry_less gs hs f e h =
    let p = sends (is_absent gs) in
    let q = sends (is_absent hs) in
    let none = not_true (names_absent_group gs e.flow.instructions) h in
    not_false _ (any_either (has_action p) (has_action q) (has_action p) (has_either p q p (sends_less (is_absent gs) (is_absent hs) f)) e.flow.instructions none none)

-- more groups
pub put_stands : (g : Group) (f : Forwarding) → g.id ≤ 0xffffff00 → GroupsExist f → GroupsExist (record f { groups = with_group g f.groups })
put_stands g f small k = record {
  entries = all_so (all_name_existing_groups f.groups) (all_name_existing_groups (with_group g f.groups)) (λ t. all_so (names_existing_groups f.groups) (names_existing_groups (with_group g f.groups)) (entry_less f.groups (with_group g f.groups) here) t.flows) f.tables.tables k.entries;
  numbers = all_joined is_numbered (filter (λ (h : Group). ltb h.id g.id) f.groups) _ (all-filter is_numbered (λ (h : Group). ltb h.id g.id) f.groups k.numbers)
      (and_from _ _ (le-leb g.id 0xffffff00 small) (all-filter is_numbered (λ (h : Group). ltb g.id h.id) f.groups k.numbers));
}
  where
    here : (n : ℕ) → is_absent f.groups n ≡ false → is_absent (with_group g f.groups) n ≡ false
    here n h = ap not (there_with g n f.groups) ∙ by_test (eqb g.id n) (is_there n f.groups) h
      where
        by_test : (a b : Bool) → not b ≡ false → not (a || b) ≡ false
        by_test true b e = refl
        by_test false b e = e

-- fewer groups, with the entries that name them

there_left : (n m : ℕ) (gs : List Group) → eqb m n ≡ false → is_there m gs ≡ true → is_there m (without group_number n gs) ≡ true
there_left n m [] e h = h
there_left n m (g ∷ gs) e h = by_tests (eqb g.id n) (eqb g.id m) refl refl h (there_left n m gs e)
  where
    by_tests : (a b : Bool) → eqb g.id n ≡ a → eqb g.id m ≡ b → (eqb g.id m || is_there m gs) ≡ true → (is_there m gs ≡ true → is_there m (without group_number n gs) ≡ true)
        → is_there m (cond (not (eqb g.id n)) (g ∷ without group_number n gs) (without group_number n gs)) ≡ true
    by_tests true true a b h again =
        let same : m ≡ n = sym (eqb-true g.id m b) ∙ eqb-true g.id n a in
        let never : eqb m n ≡ true = eq-eqb m n same in
        absurd cc
    by_tests true false a b h again = rw a (again (rw b at h))
    by_tests false true a b h again = rw (a, b) refl
    by_tests false false a b h again = rw (a, b) (again (rw b at h))

gone_or_left : (which : Option ℕ) (gs : List Group) (a : Action) → sends (is_absent gs) a ≡ false → is_to which a ≡ false → sends (is_absent (groups_left which gs)) a ≡ false
gone_or_left None gs (ToGroup m) h k = absurd cc
gone_or_left (Some n) gs (ToGroup m) h k = not_there (there_left n m gs k (there h))
  where
    there : is_absent gs m ≡ false → is_there m gs ≡ true
    there e = by_test (is_there m gs) e
      where
        by_test : (b : Bool) → not b ≡ false → b ≡ true
        by_test true t = refl
        by_test false t = absurd cc

    not_there : is_there m (without group_number n gs) ≡ true → is_absent (without group_number n gs) m ≡ false
    not_there e = rw e refl
gone_or_left which gs other h k = refl

unnamed : (which : Option ℕ) (e : FlowEntry) → stays (OfGroup which) e ≡ true → names_group which e ≡ false
unnamed which e h = by_test (names_group which e) refl
  where
    by_test : (b : Bool) → names_group which e ≡ b → b ≡ false
    by_test false t = refl
    by_test true t =
        let never : stays (OfGroup which) e ≡ false = rw t refl in
        absurd cc

entry_left : (which : Option ℕ) (gs : List Group) (e : FlowEntry) → names_existing_groups gs e ≡ true → stays (OfGroup which) e ≡ true → names_existing_groups (groups_left which gs) e ≡ true
entry_left which gs e h s =
    let p = sends (is_absent gs) in
    let q = sends (is_absent (groups_left which gs)) in
    not_false _ (any_either (has_action p) (has_action q) (has_action (is_to which)) (has_either p q (is_to which) (gone_or_left which gs)) e.flow.instructions (not_true _ h) (unnamed which e s))

numbers_left : (which : Option ℕ) (gs : List Group) → list_all is_numbered gs ≡ true → list_all is_numbered (groups_left which gs) ≡ true
numbers_left None gs h = refl
numbers_left (Some n) gs h = all-filter is_numbered (λ (g : Group). not (eqb g.id n)) gs h

pub groups_left_stand : (which : Option ℕ) (f : Forwarding) → GroupsExist f → GroupsExist (record f { tables = left_in (OfGroup which) f.tables; groups = groups_left which f.groups })
groups_left_stand which f k = record {
  entries = each_stands f.groups (groups_left which f.groups) (left_table (OfGroup which)) (λ n t h. all_left (names_existing_groups f.groups) (stays (OfGroup which)) (names_existing_groups (groups_left which f.groups)) (entry_left which f.groups) t.flows h) 0 f.tables.tables k.entries;
  numbers = numbers_left which f.groups k.numbers;
}

-- ---- what is counted

pub tables_stand : (ts : Tables) (f : Forwarding) → Stand f.groups ts → GroupsExist f → GroupsExist (record f { tables = ts })
tables_stand ts f h k = record { entries = h; numbers = k.numbers }

pub ports_stand : (ports : List Port) (f : Forwarding) → GroupsExist f → GroupsExist (record f { ports = ports })
ports_stand ports f k = record { entries = k.entries; numbers = k.numbers }

pub held_stands : (held : HeldFrames) (f : Forwarding) → GroupsExist f → GroupsExist (record f { held = held })
held_stands held f k = record { entries = k.entries; numbers = k.numbers }

tallied_stands : (c : Count) (f : Forwarding) → GroupsExist f → GroupsExist (tallied c f)
tallied_stands (Lookup t) f k = tables_stand (looked_in t f.tables) f (looked_stands f.groups t f.tables k.entries) k
tallied_stands (Matched t place bytes) f k = tables_stand (matched_in t place bytes f.tables) f (matched_stands f.groups t place bytes f.tables k.entries) k
tallied_stands (TxDropped port) f k = ports_stand _ f k
tallied_stands (GroupUse n bytes) f k = changed_at n _ (λ g. refl) f k
tallied_stands (Bucket n place bytes) f k = changed_at n _ (λ g. refl) f k

all_tallied_stand : (cs : List Count) (f : Forwarding) → GroupsExist f → GroupsExist (all_tallied cs f)
all_tallied_stand [] f k = k
all_tallied_stand (c ∷ cs) f k = all_tallied_stand cs (tallied c f) (tallied_stands c f k)

sent_stands : (e : Effect) (f : Forwarding) → GroupsExist f → GroupsExist (sent e f)
sent_stands (Sent port frame) f k = ports_stand _ f k
sent_stands other f k = k

all_sent_stand : (es : List Effect) (f : Forwarding) → GroupsExist f → GroupsExist (all_sent es f)
all_sent_stand [] f k = k
all_sent_stand (e ∷ es) f k = all_sent_stand es (sent e f) (sent_stands e f k)

pub removed_stands : (cause : Cause) (f : Forwarding) → GroupsExist f → GroupsExist (record f { tables = left_in cause f.tables })
removed_stands cause f k = tables_stand (left_in cause f.tables) f (left_stands f.groups cause f.tables k.entries) k

applied_stands : (heard : AsyncConfig) (ports : List Port) (m : Machine) (f : Forwarding) → GroupsExist f → GroupsExist (applied heard ports m f).forwarding
applied_stands heard ports m f k = all_sent_stand (effects_of heard ports f.held m.items) _ (all_tallied_stand m.counts _ (held_stands (held_after heard ports f.held m.items) f k))

pub through_stands : (heard : AsyncConfig) (p : Packet) (work : List Work) (f : Forwarding) → GroupsExist f → GroupsExist (through heard p work f).forwarding
through_stands heard p work f k = applied_stands heard f.ports (run_of (world_of f) p work) f k

taken_stands : (heard : AsyncConfig) (number : ℕ) (bytes : List ℕ) (f : Forwarding) (fault : Option FrameFault) → GroupsExist f → GroupsExist (taken_in heard number bytes f fault).forwarding
taken_stands heard number bytes f (Some fault) k = ports_stand _ f k
taken_stands heard number bytes f None k = applied_stands heard f.ports (run_of (world_of f) (entering bytes number) (LookUp 0 ∷ [])) (count_port number (Received (length bytes)) f) (ports_stand _ f k)

arriving_stands : (heard : AsyncConfig) (number : ℕ) (bytes : List ℕ) (f : Forwarding) (port : Option Port) → GroupsExist f → GroupsExist (arriving heard number bytes f port).forwarding
arriving_stands heard number bytes f None k = k
arriving_stands heard number bytes f (Some p) k = by_test (may_receive p) refl
  where
    by_test : (b : Bool) → may_receive p ≡ b → GroupsExist (arriving heard number bytes f (Some p)).forwarding
    by_test true e = rw e (taken_stands heard number bytes f (frame_fault bytes) k)
    by_test false e = rw e (ports_stand _ f k)

pub framed_stands : (heard : AsyncConfig) (number : ℕ) (bytes : List ℕ) (f : Forwarding) → GroupsExist f → GroupsExist (framed heard number bytes f).forwarding
framed_stands heard number bytes f k = arriving_stands heard number bytes f (port_at f.ports number) k

-- ---- what a FLOW_MOD adds and modifies

pub flow_stands : (k : ℕ) (flow : Flow) (f : Forwarding) (ts : Tables) → ts ≡ added_to k flow f.tables → names_absent_group f.groups flow.instructions ≡ false → GroupsExist f → GroupsExist (record f { tables = ts })
flow_stands k flow f ts e h s = tables_stand ts f (subst (Stand f.groups) (sym e) (added_stands f.groups k flow f.tables h s.entries)) s

pub modify_stands : (w : Selector) (is : List Instruction) (reset : Bool) (f : Forwarding) (ts : Tables) → ts ≡ modified_in w is reset f.tables → names_absent_group f.groups is ≡ false → GroupsExist f → GroupsExist (record f { tables = ts })
modify_stands w is reset f ts e h s = tables_stand ts f (subst (Stand f.groups) (sym e) (modified_stands f.groups w is reset f.tables h s.entries)) s

-- ---- what is loaded

-- a text and a table say the same of what instructions name
pub same_named : (gs : List TextGroup) (is : List Instruction) → list_any (has_action (sends (is_absent (groups_at 0 gs)))) is ≡ list_any (names_absent gs) is
same_named gs [] = refl
same_named gs (instructions.Apply xs ∷ is) = ap (λ (b : Bool). list_any (sends (is_absent (groups_at 0 gs))) xs || b) (same_named gs is)
same_named gs (instructions.Clear ∷ is) = same_named gs is
same_named gs (instructions.Write xs ∷ is) = ap (λ (b : Bool). list_any (sends (is_absent (groups_at 0 gs))) xs || b) (same_named gs is)
same_named gs (instructions.Metadata v m ∷ is) = same_named gs is
same_named gs (instructions.Goto t ∷ is) = same_named gs is

flows_loaded : (now : ℕ) (gs : List TextGroup) (before fs : List TextFlow) → AllStandBehind gs before fs → list_all (names_existing_groups (groups_at now gs)) (map (loaded_entry now) fs) ≡ true
flows_loaded now gs before [] h = refl
flows_loaded now gs before (f ∷ fs) h =
    let named : names_absent_group (groups_at now gs) f.instructions ≡ false =
    ap (λ (p : ℕ → Bool). list_any (has_action (sends p)) f.instructions) (absent_same now 0 gs) ∙ (same_named gs f.instructions ∙ h.0.groups_there) in
    and_from _ _ (not_false _ named) (flows_loaded now gs (before ++ f ∷ []) fs h.1)

tables_loaded : (now : ℕ) (gs : List TextGroup) (ts : List (List TextFlow)) → ((k : ℕ) → k < length ts → AllStandBehind gs [] (slice_index_or ts k [])) → list_all (all_name_existing_groups (groups_at now gs)) (map (loaded_table now) ts) ≡ true
tables_loaded now gs [] h = refl
tables_loaded now gs (t ∷ ts) h = and_from _ _ (flows_loaded now gs [] t (h 0 (omega arith))) (tables_loaded now gs ts (λ k l. h (suc k) (omega (arith, l))))

numbers_loaded : (now : ℕ) (gs : List TextGroup) → AllByRecursion (λ (g : TextGroup). g.head.id ≤ 0xffffff00) gs → list_all is_numbered (groups_at now gs) ≡ true
numbers_loaded now [] h = refl
numbers_loaded now (g ∷ gs) h = and_from _ _ (le-leb g.head.id 0xffffff00 h.0) (numbers_loaded now gs h.1)

pub loaded_stands : (now : ℕ) (c : Configuration) (groups : List Group) (tables : Tables) (ports : List Port) (held : HeldFrames) → IsConfig c → groups ≡ groups_at now c.groups → tables ≡ loaded_tables now c.tables → GroupsExist (record { tables = tables; groups = groups; ports = ports; held = held })
loaded_stands now c groups tables ports held k g t =
    let many : length c.tables ≡ 16 = ap length k.filled ∙ sixteen k.flows in
    rw (g, t) (record {
      entries = tables_loaded now c.groups c.tables (λ n l. config_stands c k n (omega (arith, l, many)));
      numbers = numbers_loaded now c.groups (config_groups c k).numbers;
    })
