-- Flows that are added, each after those before it.
use Rattle.std.proofs.Common.{◌≡◌, ℕ, zero, suc, ◌+◌, ◌<◌, ◌≤◌, eqb, Bool, true, false, not, List, [], ◌∷◌, ◌++◌, length, drop, get_or, set, None, refl, sym, ◌∙◌, ap, subst, append_assoc, arith, Ok}
use Rattle.std.specs.Prelude.{◌&&◌, ◌||◌, map, nat_le, bit_and, replicate}
use Rattle.std.specs.List.{AllByRecursion, list_any, flat_map}
use Rattle.std.proofs.{lemmas.Bool.and_parts, lemmas.Bool.eq-eqb, lemmas.Bool.eqb-true, lemmas.Bool.and_right, lemmas.Bool.Decides.nat_tests, lemmas.Nat.and_le_r}
use Rattle.std.proofs.lemmas.List.{append-nil, map-append, length-map, length-append}
use Rattle.of_wire.specs.Refusals.{first_of}
use Rattle.of_oxm.{specs.Canonical.canonical, proofs.Written.canonical_short}
use Rattle.of_actions.{specs.CanonicalInstructions.canonical_instructions, specs.InstructionLists.are_for, proofs.InstructionLengths.instructions_short}
use Rattle.of_formats.specs.Structs.{FitsStruct}
use Rattle.of_formats.specs.Tables as tables
use Rattle.of_table.specs.Table.{FlowEntry, Table, added, empty_table, is_full, is_same}
use Rattle.of_table.specs.Tables.{Tables, added_to, no_tables, table_at, tables_of}
use Rattle.of_table.proofs.PlaceLemmas.{find_none, filter_others}
use Rattle.of_text.specs.{Flows.Flow as TextFlow, Groups.TextGroup, Groups.groups_at, Kept.AllStandBehind, Kept.IsEntry, Refusals.names_absent, Refusals.has_same_match as is_same_text}
use Rattle.of_text.specs.{Configs.all_flows, Rows.HeadFits}
use Rattle.of_messages.specs.{declared.message.Message.TheVariants.FlowMod as IsFlowMod, Messages.message_of, Written.flow_mod_bytes, Written.flow_mod_fixed_part, Written.flow_mod_numbers}
use Rattle.of_messages.proofs.Appended.{length_flow_mod}
use Rattle.of_build.specs.{Building.chunk_line, Listing.add_of, Listing.flow_adds}
use Rattle.of_datapath.proofs.LoadLemmas.{filled, filled_all, filled_more, filled_next, filled_none}
use Rattle.of_datapath.specs.{Buffers.none_held, Commands.flow_mod_refusals, Commands.flow_of, Commands.has_flag, Commands.names_absent_group}
use Rattle.of_datapath.{specs.Loading.loaded_entry, specs.Loading.loaded_table, specs.Loading.loaded_tables, proofs.StandingLemmas.same_named}
use Rattle.of_switch.specs.{declared.event.Event.Event, declared.event.Event.TheVariants.Chunk, State.State, Runs.Gives, Runs.happened}
use Rattle.of_laws.proofs.{ByteLemmas.flow_mod_are_bytes, FlowAgain.flow_mod_again, StreamMessages.built, StreamMessages.one_message, Chunks.Leads, Chunks.handles, Chunks.leads_first, Chunks.ready}
use Rattle.of_replay.proofs.EventRowsRead.{IsShown, Means, means_end, means_chunk}

-- ---- flags: 2 asks for a check

abbrev is_unchecked : ℕ → Bool
is_unchecked n = not (eqb (bit_and n 25) n) || not (has_flag n 2)

unchecked_to : ℕ → Bool
unchecked_to zero = is_unchecked 0
unchecked_to (suc m) = is_unchecked (suc m) && unchecked_to m

unchecked_below : (n m : ℕ) → n ≤ m → unchecked_to m ≡ true → is_unchecked n ≡ true
unfolding unchecked_to
unchecked_below n zero l h =
    let is : 0 ≡ n = omega (arith, l) in
    subst (λ (k : ℕ). is_unchecked k ≡ true) is h
unchecked_below n (suc m) l h =
    let parts = and_parts (is_unchecked (suc m)) (unchecked_to m) h in
    by_test (eqb (suc m) n) refl parts.0 (λ less. unchecked_below n m less parts.1)
  where
    by_test : (b : Bool) → eqb (suc m) n ≡ b → is_unchecked (suc m) ≡ true → (n ≤ m → is_unchecked n ≡ true) → is_unchecked n ≡ true
    by_test true e here later = subst (λ (k : ℕ). is_unchecked k ≡ true) (eqb-true (suc m) n e) here
    by_test false e here later = later (grind (arith, nat_tests))

few_flags : (n : ℕ) → bit_and n 25 ≡ n → n ≤ 25
few_flags n h = subst (λ (k : ℕ). k ≤ 25) h (and_le_r n 25)

unchecked : (n : ℕ) → bit_and n 25 ≡ n → has_flag n 2 ≡ false
unfolding unchecked_to
unchecked n h =
    let all : unchecked_to 25 ≡ true = refl in
    by_test (eqb (bit_and n 25) n) (has_flag n 2) (eq-eqb (bit_and n 25) n h) (unchecked_below n 25 (few_flags n h) all)
  where
    by_test : (b c : Bool) → b ≡ true → (not b || not c) ≡ true → c ≡ false
    by_test true true e k = absurd cc
    by_test true false e k = refl
    by_test false c e k = absurd cc

-- ---- a flow that may be added

-- it is valid in its table, and its numbers fit
pub record IsSent (table : ℕ) (f : TextFlow) : Type 0 where
  pub low : table < 16
  pub own : f.head.table ≡ table
  pub entry : IsEntry table f
  pub head : HeadFits f.head

flow_read : (xid table : ℕ) (f : TextFlow) → IsSent table f → bit_and f.head.flags 25 ≡ f.head.flags → message_of (flow_mod_bytes xid (add_of f)) ≡ Ok (IsFlowMod (add_of f))
flow_read xid table f s flags =
    let few = few_flags f.head.flags flags in
    let low : f.head.table < 16 = omega (arith, s.own, s.low) in
    let fit : are_for f.head.table f.instructions ≡ true = rw (s.own) s.entry.leads_on in
    let fits : FitsStruct tables.flow_mod (flow_mod_numbers (add_of f)) [] = (s.head.2, (omega arith, (omega arith, (omega arith, (s.head.3, (s.head.4, (s.head.1, (omega arith, (omega arith, (omega arith, (omega (arith, few), tt))))))))))) in
    flow_mod_again xid (add_of f) fits (record { table = low; flags = omega (arith, few); fit = s.entry.checked }) s.entry.fields s.entry.kept fit (λ deleted. absurd cc)

not_refused : (gs : List TextGroup) (ts : Tables) (f : TextFlow) → f.head.table < 16 → bit_and f.head.flags 25 ≡ f.head.flags → list_any (names_absent gs) f.instructions ≡ false → length (table_at f.head.table ts).flows < 4096
    → first_of (flow_mod_refusals (add_of f) ts (groups_at 0 gs) none_held) ≡ None
not_refused gs ts f low flags there room =
    let named : names_absent_group (groups_at 0 gs) f.instructions ≡ false = same_named gs f.instructions ∙ there in
    let check : has_flag f.head.flags 2 ≡ false = unchecked f.head.flags flags in
    let some : nat_le 4096 (length (table_at f.head.table ts).flows) ≡ false = grind (arith, nat_tests) in
    let full : is_full (flow_of (add_of f)) (table_at f.head.table ts).flows ≡ false = and_right (not (list_any (is_same (flow_of (add_of f))) (table_at f.head.table ts).flows)) _ some in
    rw (named, check, full) refl

message_size : (xid : ℕ) (f : TextFlow) (table : ℕ) → IsSent table f → length (flow_mod_fixed_part (add_of f) ++ (canonical f.fields ++ canonical_instructions f.instructions)) ≤ 4296
message_size xid f table s =
    omega (arith, length_flow_mod (add_of f), length-append (flow_mod_fixed_part (add_of f)) (canonical f.fields ++ canonical_instructions f.instructions), length-append (canonical f.fields) (canonical_instructions f.instructions), canonical_short f.fields s.entry.fields.rising, instructions_short f.instructions s.entry.kept)

-- its FLOW_MOD is handled
handled_flow : (dpid xid table : ℕ) (gs : List TextGroup) (ts : Tables) (f : TextFlow) → IsSent table f → bit_and f.head.flags 25 ≡ f.head.flags → list_any (names_absent gs) f.instructions ≡ false → length (table_at f.head.table ts).flows < 4096
    → happened (Chunk (flow_mod_bytes xid (add_of f))) (ready (built dpid (groups_at 0 gs) ts)) ≡ record { report = Gives []; state = ready (built dpid (groups_at 0 gs) (added_to f.head.table (flow_of (add_of f)) ts)) }
handled_flow dpid xid table gs ts f s flags there room =
    let few = message_size xid f table s in
    handles (flow_mod_bytes xid (add_of f)) (built dpid (groups_at 0 gs) ts) (built dpid (groups_at 0 gs) (added_to f.head.table (flow_of (add_of f)) ts)) (IsFlowMod (add_of f))
    (one_message 14 xid (flow_mod_fixed_part (add_of f) ++ (canonical f.fields ++ canonical_instructions f.instructions)) (omega (arith, few)))
    refl
    (flow_read xid table f s flags)
    (not_refused gs ts f (omega (arith, s.own, s.low)) flags there room)
    refl

-- its row
shown_flow : (xid table : ℕ) (f : TextFlow) → IsSent table f → IsShown (flow_mod_bytes xid (add_of f))
shown_flow xid table f s =
    let few = message_size xid f table s in
    record { each = flow_mod_are_bytes xid (add_of f) (omega (arith, s.own, s.low)) s.entry.kept; some = omega arith; few = omega (arith, few) }

-- ---- a table, of which some flows are there

same_any : (now : ℕ) (f : TextFlow) (before : List TextFlow) → list_any (is_same (flow_of (add_of f))) (map (loaded_entry now) before) ≡ list_any (is_same_text f) before
same_any now f [] = refl
same_any now f (g ∷ gs) = rw (same_any now f gs) refl

added_last : (now : ℕ) (f : TextFlow) (before : List TextFlow) → list_any (is_same_text f) before ≡ false → added now (flow_of (add_of f)) (map (loaded_entry now) before) ≡ map (loaded_entry now) (before ++ f ∷ [])
added_last now f before h =
    let none : list_any (is_same (flow_of (add_of f))) (map (loaded_entry now) before) ≡ false = same_any now f before ∙ h in
    rw (find_none (is_same (flow_of (add_of f))) (map (loaded_entry now) before) none, filter_others (is_same (flow_of (add_of f))) (map (loaded_entry now) before) none)
    (sym (map-append (loaded_entry now) before (f ∷ [])))

get_set : {X : Type 0} (xs : List X) (k : ℕ) (x d : X) → k < length xs → get_or (set xs k x) k d ≡ x
get_set [] k x d lt = absurd (omega (arith, lt))
get_set (y ∷ xs) zero x d lt = refl
get_set (y ∷ xs) (suc k) x d lt = get_set xs k x d (omega (arith, lt))

set_set : {X : Type 0} (xs : List X) (k : ℕ) (x y : X) → set (set xs k x) k y ≡ set xs k y
set_set [] k x y = refl
set_set (z ∷ xs) zero x y = refl
set_set {X} (z ∷ xs) (suc k) x y = ap (λ (ys : List X). z ∷ ys) (set_set xs k x y)

set_same : {X : Type 0} (xs : List X) (k : ℕ) (x d : X) → k < length xs → get_or xs k d ≡ x → set xs k x ≡ xs
set_same [] k x d lt is = absurd (omega (arith, lt))
set_same {X} (y ∷ xs) zero x d lt is = ap (λ (z : X). z ∷ xs) (sym is)
set_same {X} (y ∷ xs) (suc k) x d lt is = ap (λ (ys : List X). y ∷ ys) (set_same xs k x d (omega (arith, lt)) is)

-- these tables, where the one has these flows
abbrev having : List Table → ℕ → List TextFlow → Tables
having ts k before = record { tables = set ts k (loaded_table 0 before); latest = 0 }

one_more : (ts : List Table) (k : ℕ) (before : List TextFlow) (f : TextFlow) → k < length ts → list_any (is_same_text f) before ≡ false → added_to k (flow_of (add_of f)) (having ts k before) ≡ having ts k (before ++ f ∷ [])
one_more ts k before f lt unlike =
    let at : table_at k (having ts k before) ≡ loaded_table 0 before = get_set ts k (loaded_table 0 before) empty_table lt in
    let last : record (table_at k (having ts k before)) { flows = added 0 (flow_of (add_of f)) (table_at k (having ts k before)).flows } ≡ loaded_table 0 (before ++ f ∷ []) =
    rw at (ap (λ (fs : List FlowEntry). record { lookups = 0; matched = 0; flows = fs }) (added_last 0 f before unlike)) in
    λ i. record { tables = (ap (λ (t : Table). set (set ts k (loaded_table 0 before)) k t) last ∙ set_set ts k (loaded_table 0 before) (loaded_table 0 (before ++ f ∷ []))) i; latest = 0 }

-- ---- the events

abbrev pub flow_events : ℕ → List TextFlow → List Event
flow_events xid [] = []
flow_events xid (f ∷ fs) = Chunk (flow_mod_bytes xid (add_of f)) ∷ flow_events (xid + 1) fs

-- flows of one table, and then others
table_leads : (dpid : ℕ) (gs : List TextGroup) (ts : List Table) (k : ℕ) (before fs rest : List TextFlow) (t : State) → k < length ts → AllByRecursion (IsSent k) fs → AllStandBehind gs before fs
    → ((x : ℕ) → Leads (flow_events x rest) (ready (built dpid (groups_at 0 gs) (having ts k (before ++ fs)))) t)
    → (xid : ℕ) → Leads (flow_events xid (fs ++ rest)) (ready (built dpid (groups_at 0 gs) (having ts k before))) t
table_leads dpid gs ts k before [] rest t lt sent stand others xid = subst (λ (b : List TextFlow). Leads (flow_events xid rest) (ready (built dpid (groups_at 0 gs) (having ts k b))) t) (append-nil before) (others xid)
table_leads dpid gs ts k before (f ∷ fs) rest t lt sent stand others xid =
    let own = sent.0.own in
    let at : table_at f.head.table (having ts k before) ≡ loaded_table 0 before = ap (λ (n : ℕ). table_at n (having ts k before)) own ∙ get_set ts k (loaded_table 0 before) empty_table lt in
    let size : length (table_at f.head.table (having ts k before)).flows ≡ length before = ap (λ (u : Table). length u.flows) at ∙ length-map before (loaded_entry 0) in
    let first = handled_flow dpid xid k gs (having ts k before) f sent.0 stand.0.flags stand.0.groups_there (omega (arith, size, stand.0.room)) in
    let next : added_to f.head.table (flow_of (add_of f)) (having ts k before) ≡ having ts k (before ++ f ∷ []) = ap (λ (n : ℕ). added_to n (flow_of (add_of f)) (having ts k before)) own ∙ one_more ts k before f lt stand.0.unlike in
    let all : before ++ f ∷ fs ≡ (before ++ f ∷ []) ++ fs = sym (append_assoc before (f ∷ []) fs) in
    let later = table_leads dpid gs ts k (before ++ f ∷ []) fs rest t lt sent.1 stand.1 (λ x. subst (λ (b : List TextFlow). Leads (flow_events x rest) (ready (built dpid (groups_at 0 gs) (having ts k b))) t) all (others x)) (xid + 1) in
    leads_first (Chunk (flow_mod_bytes xid (add_of f))) (flow_events (xid + 1) (fs ++ rest)) (ready (built dpid (groups_at 0 gs) (having ts k before))) (ready (built dpid (groups_at 0 gs) (having ts k (before ++ f ∷ [])))) t
    (first ∙ ap (λ (u : Tables). record { report = Gives []; state = ready (built dpid (groups_at 0 gs) u) }) next) later

-- ---- table by table

abbrev filled_to : List (List TextFlow) → ℕ → Tables
filled_to ts k = record { tables = filled 0 k ts; latest = 0 }

-- what holds of the flows of a table
pub record IsSentTable (gs : List TextGroup) (k : ℕ) (fs : List TextFlow) : Type 0 where
  pub sent : AllByRecursion (IsSent k) fs
  pub stand : AllStandBehind gs [] fs

abbrev pub AreSent : List TextGroup → ℕ → List (List TextFlow) → Type 0
AreSent gs k [] = Unit {0}
AreSent gs k (fs ∷ rest) = IsSentTable gs k fs × AreSent gs (suc k) rest

length_filled : (now k : ℕ) (ts : List (List TextFlow)) → length (filled now k ts) ≡ length ts
length_filled now k [] = refl
length_filled now zero (t ∷ ts) = ap suc (length_filled now zero ts)
length_filled now (suc k) (t ∷ ts) = ap suc (length_filled now k ts)

drop_none : {X : Type 0} (xs : List X) (k : ℕ) → drop k xs ≡ [] → length xs ≤ k
drop_none [] k h = omega arith
drop_none (x ∷ xs) zero h = absurd cc
drop_none (x ∷ xs) (suc k) h = let l = drop_none xs k h in omega (arith, l)

drop_some : {X : Type 0} (xs : List X) (k : ℕ) (y d : X) (ys : List X) → drop k xs ≡ y ∷ ys → (k < length xs) × (get_or xs k d ≡ y) × (drop (suc k) xs ≡ ys)
drop_some [] zero y d ys h = absurd cc
drop_some [] (suc k) y d ys h = absurd cc
drop_some (x ∷ xs) zero y d ys h = (omega arith, cc, cc)
drop_some (x ∷ xs) (suc k) y d ys h = let l = drop_some xs k y d ys h in (omega (arith, l.0), l.1, l.2)

tables_lead : (dpid : ℕ) (gs : List TextGroup) (ts : List (List TextFlow)) (k : ℕ) (rest : List (List TextFlow)) → drop k ts ≡ rest → AreSent gs k rest
    → (xid : ℕ) → Leads (flow_events xid (all_flows rest)) (ready (built dpid (groups_at 0 gs) (filled_to ts k))) (ready (built dpid (groups_at 0 gs) (loaded_tables 0 ts)))
tables_lead dpid gs ts k [] left sent xid =
    let all : filled 0 k ts ≡ map (loaded_table 0) ts = filled_all 0 k ts (drop_none ts k left) in
    ap (λ (us : List Table). record { reports = []; state = ready (built dpid (groups_at 0 gs) (record { tables = us; latest = 0 })) }) all
tables_lead dpid gs ts k (fs ∷ rest) left sent xid =
    let parts = drop_some ts k fs [] rest left in
    let us = filled 0 k ts in
    let within : k < length us = omega (arith, length_filled 0 k ts, parts.0) in
    let empty : set us k (loaded_table 0 []) ≡ us = set_same us k (loaded_table 0 []) empty_table within (filled_next 0 k ts parts.0) in
    let more : set us k (loaded_table 0 fs) ≡ filled 0 (suc k) ts = ap (λ (t : List TextFlow). set us k (loaded_table 0 t)) (sym parts.1) ∙ filled_more 0 k ts parts.0 in
    let end : State = ready (built dpid (groups_at 0 gs) (loaded_tables 0 ts)) in
    let later : (x : ℕ) → Leads (flow_events x (all_flows rest)) (ready (built dpid (groups_at 0 gs) (having us k fs))) end = λ x.
    subst (λ (vs : List Table). Leads (flow_events x (all_flows rest)) (ready (built dpid (groups_at 0 gs) (record { tables = vs; latest = 0 }))) end) (sym more) (tables_lead dpid gs ts (suc k) rest parts.2 sent.1 x) in
    subst (λ (vs : List Table). Leads (flow_events xid (fs ++ all_flows rest)) (ready (built dpid (groups_at 0 gs) (record { tables = vs; latest = 0 }))) end) empty
    (table_leads dpid gs us k [] fs (all_flows rest) end within sent.0.sent sent.0.stand later xid)

-- ALL FLOWS are added, where the groups that they name exist
pub flows_lead : (dpid xid : ℕ) (gs : List TextGroup) (ts : List (List TextFlow)) → length ts ≡ 16 → AreSent gs 0 ts
    → Leads (flow_events xid (all_flows ts)) (ready (built dpid (groups_at 0 gs) (tables_of no_tables))) (ready (built dpid (groups_at 0 gs) (loaded_tables 0 ts)))
flows_lead dpid xid gs ts n sent =
    let none : filled 0 0 ts ≡ replicate 16 empty_table = filled_none 0 ts ∙ ap (λ (k : ℕ). replicate k empty_table) n in
    subst (λ (us : List Table). Leads (flow_events xid (all_flows ts)) (ready (built dpid (groups_at 0 gs) (record { tables = us; latest = 0 }))) (ready (built dpid (groups_at 0 gs) (loaded_tables 0 ts)))) none (tables_lead dpid gs ts 0 ts refl sent xid)

-- ---- their rows

shown_table : (xid k : ℕ) (fs rest : List TextFlow) → AllByRecursion (IsSent k) fs → ((x : ℕ) → Means (flat_map chunk_line (flow_adds x rest)) (flow_events x rest)) → Means (flat_map chunk_line (flow_adds xid (fs ++ rest))) (flow_events xid (fs ++ rest))
shown_table xid k [] rest sent others = others xid
shown_table xid k (f ∷ fs) rest sent others =
    means_chunk (flow_mod_bytes xid (add_of f)) (flat_map chunk_line (flow_adds (xid + 1) (fs ++ rest))) (flow_events (xid + 1) (fs ++ rest)) (shown_flow xid k f sent.0) (shown_table (xid + 1) k fs rest sent.1 others)

pub flows_shown : (gs : List TextGroup) (k : ℕ) (ts : List (List TextFlow)) → AreSent gs k ts → (xid : ℕ) → Means (flat_map chunk_line (flow_adds xid (all_flows ts))) (flow_events xid (all_flows ts))
flows_shown gs k [] sent xid = means_end
flows_shown gs k (fs ∷ rest) sent xid = shown_table xid k fs (all_flows rest) sent.0.sent (flows_shown gs (suc k) rest sent.1)
