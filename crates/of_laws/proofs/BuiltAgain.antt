-- The messages of a configuration, beside each other, are that configuration.
use Rattle.std.proofs.Common.{◌≡◌, ℕ, suc, ◌+◌, ◌<◌, ◌≤◌, true, List, [], ◌∷◌, ◌++◌, None, Ok, refl, sym, ◌∙◌, ap, subst, arith}
use Rattle.std.specs.Prelude.{◌^◌, length, map, bit_and, nat_lt, not, ◌&&◌}
use Rattle.std.{specs.List.AllByRecursion, specs.List.list_all, proofs.lemmas.Bool.and_parts, proofs.lemmas.Bool.ltb-true, proofs.lemmas.Nat.and_le_r}
use Rattle.of_actions.specs.{InstructionLists.are_for, Rising.is_ascending}
use Rattle.of_groups.specs.{declared.group.Group.Group, Buckets.are_fit, Buckets.fresh, Faults.is_bad_watch, Faults.is_not_one}
use Rattle.of_text.specs.Groups.{TextBucket, TextGroup, bucket_of, bucket_text, buckets_of, groups_at}
use Rattle.of_text.specs.{First.first_refusal, Flows.Flow, Flows.text_rows, Kept.AllStandBehind, Texts.AreRows, Texts.groups_and_flows_text}
use Rattle.of_text.specs.{Configs.Configuration, Configs.IsConfig, Configs.all_flows, Configs.tables_of_flows, Lines.lines_of}
use Rattle.of_text.proofs.{ConfigLemmas.canonical_encodes, ConfigLemmas.rows_again, GroupLemmas.config_groups, TextLemmas.all_both, TextLemmas.one_list, WriteLemmas.text_encodes}
use Rattle.of_messages.{specs.CanonicalGroups.group_add_bytes, specs.declared.message.Message.TheVariants.FlowMod as AFlowMod, specs.Written.flow_mod_bytes, proofs.GroupAgain.group_add_again}
use Rattle.of_laws.specs.Built.{Said, IsGroup, IsFlow, Listed, config_said, listed_messages, listed_by, message_said, said_by}
use Rattle.of_laws.{specs.Cells.FitsCells, specs.Grammar.flow_mod_cells, proofs.Only.only, proofs.WrittenRequests.flow_mod_encoded, proofs.FlowsAdded.AreSent, proofs.FlowsAdded.IsSent}
use Rattle.of_laws.proofs.{GroupsAdded.IsSentGroup, BuildingLemmas.given_so, BuildingLemmas.group_in, ConfigBack.all_sent, ConfigBack.groups_sent}
use Rattle.of_build.specs.Listing.{add_of, flow_adds, group_adds, new_of}

-- ---- a message says what it was made of

buckets_same : (bs : List TextBucket) → map bucket_text (map fresh (map bucket_of bs)) ≡ bs
buckets_same [] = refl
buckets_same (b ∷ bs) = ap (λ (x : List TextBucket). b ∷ x) (buckets_same bs)

abbrev SaysGroup : TextGroup → Type 0
SaysGroup g = (xid : ℕ) → message_said (group_add_bytes xid (new_of g)) ≡ IsGroup g

group_says : (all : List Group) (g : TextGroup) → IsSentGroup all g → SaysGroup g
group_says all g s xid =
    let outer = and_parts (are_fit (buckets_of g) && not (is_bad_watch g.head.kind (buckets_of g))) (not (is_not_one g.head.kind (buckets_of g))) s.fit in
    let inner = and_parts (are_fit (buckets_of g)) (not (is_bad_watch g.head.kind (buckets_of g))) outer.0 in
    ap (said_by (group_add_bytes xid (new_of g))) (group_add_again xid (new_of g) s.number s.numbers inner.0) ∙ ap (λ (bs : List TextBucket). IsGroup (record { head = g.head; buckets = bs })) (buckets_same g.buckets)

groups_say : (all : List Group) (gs : List TextGroup) → AllByRecursion (IsSentGroup all) gs → AllByRecursion SaysGroup gs
groups_say all [] h = tt
groups_say all (g ∷ gs) h = (group_says all g h.0, groups_say all gs h.1)

abbrev SaysFlow : Flow → Type 0
SaysFlow f = (xid : ℕ) → xid < 256 ^ 4 → message_said (flow_mod_bytes xid (add_of f)) ≡ IsFlow f

flow_says : (table : ℕ) (f : Flow) → IsSent table f → bit_and f.head.flags 25 ≡ f.head.flags → SaysFlow f
flow_says table f s flags xid small =
    let few : f.head.flags ≤ 25 = subst (λ (k : ℕ). k ≤ 25) flags (and_le_r f.head.flags 25) in
    let low : f.head.table < 16 = omega (arith, s.own, s.low) in
    let fit : are_for f.head.table f.instructions ≡ true = rw (s.own) s.entry.leads_on in
    let fits : FitsCells (flow_mod_cells (add_of f)) = (s.head.2, (omega arith, (omega (arith, low), (omega arith, (s.head.3, (s.head.4, (s.head.1, (omega arith, (omega arith, (omega arith, (omega (arith, few), tt))))))))))) in
    let encoded = flow_mod_encoded xid (add_of f) small fits (record { table = low; flags = omega (arith, few); fit = s.entry.checked }) s.entry.fields s.entry.kept fit (λ deleted. absurd cc) in
    ap (said_by (flow_mod_bytes xid (add_of f))) (only xid (AFlowMod (add_of f)) (flow_mod_bytes xid (add_of f)) encoded)

table_says : (gs : List TextGroup) (table : ℕ) (before fs : List Flow) → AllByRecursion (IsSent table) fs → AllStandBehind gs before fs → AllByRecursion SaysFlow fs
table_says gs table before [] h stand = tt
table_says gs table before (f ∷ fs) h stand = (flow_says table f h.0 stand.0.flags, table_says gs table (before ++ f ∷ []) fs h.1 stand.1)

flows_say : (gs : List TextGroup) (k : ℕ) (ts : List (List Flow)) → AreSent gs k ts → AllByRecursion SaysFlow (all_flows ts)
flows_say gs k [] sent = tt
flows_say gs k (fs ∷ ts) sent = all_both SaysFlow fs (all_flows ts) (table_says gs k [] fs sent.0.sent sent.0.stand) (flows_say gs (suc k) ts sent.1)

-- ---- the list

record IsListed (l : Listed) (gs : List TextGroup) (fs : List Flow) : Type 0 where
  pub groups : l.groups ≡ gs
  pub flows : l.flows ≡ fs
  pub fault : l.fault ≡ None

flows_listed : (place least xid : ℕ) (fs : List Flow) → xid + length fs ≤ 256 ^ 4 → AllByRecursion SaysFlow fs → IsListed (listed_messages place least (flow_adds xid fs)) [] fs
flows_listed place least xid [] small h = record { groups = refl; flows = refl; fault = refl }
flows_listed place least xid (f ∷ fs) small h =
    let next : ℕ → Listed = λ n. listed_messages (place + 1) n (flow_adds (xid + 1) fs) in
    let is : listed_messages place least (flow_adds xid (f ∷ fs)) ≡ listed_by place least (IsFlow f) next = ap (λ (s : Said). listed_by place least s next) (h.0 xid (omega (arith, small))) in
    let others = flows_listed (place + 1) 0x100000000 (xid + 1) fs (omega (arith, small)) h.1 in
    record {
      groups = ap (λ (l : Listed). l.groups) is ∙ others.groups;
      flows = ap (λ (l : Listed). l.flows) is ∙ ap (λ (x : List Flow). f ∷ x) others.flows;
      fault = ap (λ (l : Listed). l.fault) is ∙ others.fault;
    }

above_all : (n : ℕ) (gs : List TextGroup) → list_all (λ y. nat_lt n y.head.id) gs ≡ true → AllByRecursion (λ g. n + 1 ≤ g.head.id) gs
above_all n [] h = tt
above_all n (g ∷ gs) h =
    let parts = and_parts (nat_lt n g.head.id) (list_all (λ y. nat_lt n y.head.id) gs) h in
    let lt : n < g.head.id = ltb-true n g.head.id parts.0 in
    (omega (arith, lt), above_all n gs parts.1)

groups_listed : (place least xid later : ℕ) (gs : List TextGroup) (fs : List Flow) → later + length fs ≤ 256 ^ 4 → AllByRecursion SaysGroup gs → AllByRecursion (λ g. least ≤ g.head.id) gs → is_ascending (λ g. g.head.id) gs ≡ true → AllByRecursion SaysFlow fs
    → IsListed (listed_messages place least (group_adds xid gs ++ flow_adds later fs)) gs fs
groups_listed place least xid later [] fs small h above rising k = flows_listed place least later fs small k
groups_listed place least xid later (g ∷ gs) fs small h above rising k =
    let parts = and_parts (list_all (λ y. nat_lt g.head.id y.head.id) gs) (is_ascending (λ y. y.head.id) gs) rising in
    let next : ℕ → Listed = λ n. listed_messages (place + 1) n (group_adds (xid + 1) gs ++ flow_adds later fs) in
    let is = ap (λ (s : Said). listed_by place least s next) (h.0 xid) ∙ group_in place least g next above.0 in
    let others = groups_listed (place + 1) (g.head.id + 1) (xid + 1) later gs fs small h.1 (above_all g.head.id gs parts.0) parts.1 k in
    record {
      groups = ap (λ (l : Listed). l.groups) is ∙ ap (λ (x : List TextGroup). g ∷ x) others.groups;
      flows = ap (λ (l : Listed). l.flows) is ∙ others.flows;
      fault = ap (λ (l : Listed). l.fault) is ∙ others.fault;
    }

-- ---- a configuration

all_low : (gs : List TextGroup) → AllByRecursion (λ g. 0 ≤ g.head.id) gs
all_low [] = tt
all_low (g ∷ gs) = (omega arith, all_low gs)

rising_text : (gs : List TextGroup) → is_ascending (λ (g : Group). g.id) (groups_at 0 gs) ≡ true → is_ascending (λ g. g.head.id) gs ≡ true
rising_text [] h = refl
rising_text (g ∷ gs) h =
    let parts = and_parts (list_all (λ (y : Group). nat_lt g.head.id y.id) (groups_at 0 gs)) (is_ascending (λ (y : Group). y.id) (groups_at 0 gs)) h in
    rw (above g.head.id gs parts.0, rising_text gs parts.1) refl
  where
    above : (n : ℕ) (xs : List TextGroup) → list_all (λ (y : Group). nat_lt n y.id) (groups_at 0 xs) ≡ true → list_all (λ y. nat_lt n y.head.id) xs ≡ true
    above n [] k = refl
    above n (x ∷ xs) k =
        let both = and_parts (nat_lt n x.head.id) (list_all (λ (y : Group). nat_lt n y.id) (groups_at 0 xs)) k in
        rw (both.0, above n xs both.1) refl

-- its flows table by table fill its tables, and none is refused
record Stands (c : Configuration) : Type 0 where
  pub first : first_refusal c.groups (all_flows c.tables) ≡ None
  pub filled : c.tables ≡ tables_of_flows (all_flows c.tables)

stands : (c : Configuration) → IsConfig c → Stands c
stands c k =
    let e = canonical_encodes c k in
    let rows : AreRows (text_rows c.groups (all_flows c.tables)) = subst (λ (ts : List (List Flow)). AreRows (text_rows c.groups (all_flows ts))) (sym k.filled) (rows_again c.groups k.flows k.rows) in
    let same = one_list (lines_of (groups_and_flows_text c.groups (all_flows c.tables))) c.groups c.groups e.flows (all_flows c.tables) e.encoded (text_encodes c.groups (all_flows c.tables) rows) in
    record { first = subst (λ (fs : List Flow). first_refusal c.groups fs ≡ None) same.1 e.stand; filled = e.filled ∙ ap tables_of_flows same.1 }

pub built_again : (c : Configuration) (groups flows : ℕ) → IsConfig c → flows + length (all_flows c.tables) ≤ 256 ^ 4 → config_said (group_adds groups c.groups ++ flow_adds flows (all_flows c.tables)) ≡ Ok c
unfolding config_said
built_again c groups flows k small =
    let sent = groups_sent c.groups (config_groups c k) in
    let l = groups_listed 0 0 groups flows c.groups (all_flows c.tables) small (groups_say (groups_at 0 c.groups) c.groups sent.each) (all_low c.groups) (rising_text c.groups sent.rising) (flows_say c.groups 0 c.tables (all_sent c k)) in
    let s = stands c k in
    given_so (listed_messages 0 0 (group_adds groups c.groups ++ flow_adds flows (all_flows c.tables))) c l.fault (rw (l.groups, l.flows) s.first) (sym l.groups) (rw l.flows s.filled)
