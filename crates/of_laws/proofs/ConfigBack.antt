-- A configuration comes back from its messages.
use Rattle.std.proofs.Common.{◌≡◌, ℕ, suc, ◌+◌, ◌<◌, ◌≤◌, eqb, Bool, true, false, not, List, [], ◌∷◌, ◌++◌, length, Option, Some, None, Ok, refl, sym, ◌∙◌, ap, subst, arith}
use Rattle.std.specs.Prelude.{map, replicate, slice_index_or, ◌&&◌, ◌||◌}
use Rattle.std.proofs.lemmas.Bool.{and_from, and_parts, eq-eqb, le-leb, lt-ltb}
use Rattle.std.{specs.List.AllByRecursion, specs.List.flat_map, specs.List.list_all, proofs.lemmas.List.length-append, proofs.lemmas.List.length-map, proofs.lemmas.List.map-append}
use Rattle.of_oxm.{specs.Canonical.canonical, proofs.Written.canonical_short}
use Rattle.of_actions.{specs.CanonicalInstructions.canonical_instructions, proofs.InstructionLengths.instructions_short}
use Rattle.of_groups.specs.{declared.group.Group.Group, Buckets.are_fit, Chains.AreShort, Chains.chain, Faults.is_absent, Faults.is_bad_watch, Faults.is_not_one, Groups.any_named, Groups.is_there}
use Rattle.of_groups.{specs.Sound.is_fit_group, specs.Sound.is_whole, proofs.ChainLaws.chain_at_most, proofs.ChainLaws.chain_there, proofs.NameLemmas.or_first, proofs.NameLemmas.or_true}
use Rattle.of_table.specs.Tables.{no_tables, tables_of as empty_tables}
use Rattle.of_text.specs.Groups.{TextBucket, TextGroup, bucket_of, bucket_rows, buckets_of, group_at, group_rows, groups_at, rows_of_groups}
use Rattle.of_text.specs.{Rows.Fits, Flows.Flow as TextFlow, Flows.flow_rows, Flows.rows_of_all_flows as rows_of_flows, Kept.AllStandBehind, Kept.AreKeptGroups, Kept.IsEntry}
use Rattle.of_text.{specs.Configs.Configuration, specs.Configs.IsConfig, specs.Configs.all_flows, proofs.ConfigLemmas.AllFor, proofs.ConfigLemmas.all_for, proofs.ConfigLemmas.config_fits}
use Rattle.of_text.proofs.{EntryLemmas.config_entries, EntryLemmas.config_stands, FillLemmas.sixteen, FillLemmas.table_at as text_table_at, GroupLemmas.config_groups}
use Rattle.of_text.proofs.TextLemmas.{all_back, all_both, all_front}
use Rattle.of_messages.specs.CanonicalGroups.{canonical_buckets, group_add_bytes, group_add_fixed_part, has_numbers}
use Rattle.of_messages.{specs.Written.flow_mod_bytes, specs.Written.flow_mod_fixed_part, specs.Written.message, proofs.Appended.length_flow_mod}
use Rattle.of_messages.proofs.BucketsWritten.{buckets_short, length_front}
use Rattle.of_formats.specs.declared.messages.TheConstants.{FLOW_MOD, GROUP_MOD}
use Rattle.of_session.specs.Stream.{length_of}
use Rattle.of_datapath.specs.{declared.effect.Effect.Effect, Loading.loaded_tables}
use Rattle.of_switch.specs.Runs.{Gives, IsRefused, Report, Happened, Run, happened, chunk_in, run, unless_refusal}
use Rattle.of_switch.specs.{declared.event.Event.Event, declared.event.Event.TheVariants.Chunk, declared.switch_error.SwitchError.SwitchError, Calls.feed_refusal, Loading.config_of}
use Rattle.of_switch.{specs.State.State, specs.State.new_core, specs.State.start, proofs.ToldAgain.told_again}
use Rattle.of_laws.specs.Sending.{config_by, config_from, is_command}
use Rattle.of_laws.proofs.FlowsAdded.{AreSent, IsSent, flow_events, flows_lead}
use Rattle.of_laws.proofs.{GroupsAdded.AreSentGroups, GroupsAdded.IsSentGroup, GroupsAdded.group_events, GroupsAdded.groups_lead, StreamMessages.built, StreamMessages.one_message}
use Rattle.of_laws.proofs.{Chunks.Leads, Chunks.ready, Present.all_kept, SendingLemmas.greeted_is}
use Rattle.of_build.specs.Listing.{add_of, flow_adds, group_adds, in_turn, messages_of, new_of, of_length}

-- ---- the groups of a configuration

numbers_fit : (bs : List TextBucket) → AllByRecursion Fits (flat_map bucket_rows bs) → list_all has_numbers (map bucket_of bs) ≡ true
unfolding has_numbers
numbers_fit [] h = refl
numbers_fit (b ∷ bs) h =
    let here = h.0 in
    and_from _ _ (and_from _ _ (and_from _ _ (lt-ltb _ _ here.0) (lt-ltb _ _ here.1)) (lt-ltb _ _ here.2)) (numbers_fit bs (all_back Fits (bucket_rows b) (flat_map bucket_rows bs) h))

there_among : (all : List Group) (gs : List TextGroup) → ((m : ℕ) → is_there m (groups_at 0 gs) ≡ true → is_there m all ≡ true) → AllByRecursion (λ (g : TextGroup). is_there g.head.id all ≡ true) gs
there_among all [] among = tt
there_among all (g ∷ gs) among = (
  among g.head.id (or_first (eqb g.head.id g.head.id) (is_there g.head.id (groups_at 0 gs)) (eq-eqb g.head.id g.head.id refl)),
  there_among all gs (λ m h. among m (or_true (eqb g.head.id m) (is_there m (groups_at 0 gs)) h)),
)

not_true : (b : Bool) → not b ≡ true → b ≡ false
not_true true h = absurd cc
not_true false h = refl

each_sent : (all : List Group) (gs : List TextGroup) → AreShort all → AllByRecursion Fits (rows_of_groups gs) → AllByRecursion (λ (g : TextGroup). g.head.id ≤ 0xffffff00) gs → list_all is_fit_group (groups_at 0 gs) ≡ true
    → list_all (is_whole all) (groups_at 0 gs) ≡ true → AllByRecursion (λ (g : TextGroup). is_there g.head.id all ≡ true) gs → AllByRecursion (IsSentGroup all) gs
each_sent all [] short fits numbers fit whole there = tt
each_sent all (g ∷ gs) short fits numbers fit whole there =
    let f = and_parts (is_fit_group (group_at 0 g)) (list_all is_fit_group (groups_at 0 gs)) fit in
    let w = and_parts (is_whole all (group_at 0 g)) (list_all (is_whole all) (groups_at 0 gs)) whole in
    let rows = all_front Fits (group_rows g) (rows_of_groups gs) fits in (
      record {
        number = numbers.0;
        numbers = numbers_fit g.buckets rows.1;
        fit = f.0;
        whole = not_true (any_named (is_absent all) (group_at 0 g)) w.0;
        some = chain_there all g.head.id there.0;
        short = chain_at_most all g.head.id short;
      },
      each_sent all gs short (all_back Fits (group_rows g) (rows_of_groups gs) fits) numbers.1 f.1 w.1 there.1,
    )

pub groups_sent : (gs : List TextGroup) → AreKeptGroups gs → AreSentGroups gs
groups_sent gs k = record {
  each = each_sent (groups_at 0 gs) gs k.sound.short k.fits k.numbers k.sound.fit k.sound.whole (there_among (groups_at 0 gs) gs (λ m h. h));
  rising = k.sound.rising;
  few = let few = k.sound.few in omega (arith, few, length-map gs (group_at 0));
  short = k.sound.short;
}

-- ---- its flows

flows_sent : (table : ℕ) (fs rest : List TextFlow) → table < 16 → AllFor table fs → AllByRecursion (IsEntry table) fs → AllByRecursion Fits (rows_of_flows (fs ++ rest)) → AllByRecursion (IsSent table) fs × AllByRecursion Fits (rows_of_flows rest)
flows_sent table [] rest low own entries fits = (tt, fits)
flows_sent table (f ∷ fs) rest low own entries fits =
    let others = flows_sent table fs rest low own.1 entries.1 (all_back Fits (flow_rows f) (rows_of_flows (fs ++ rest)) fits) in
    ((record { low = low; own = own.0; entry = entries.0; head = (all_front Fits (flow_rows f) (rows_of_flows (fs ++ rest)) fits).0 }, others.0), others.1)

-- what holds of each table
record IsTable (gs : List TextGroup) (k : ℕ) (fs : List TextFlow) : Type 0 where
  low : k < 16
  own : AllFor k fs
  entries : AllByRecursion (IsEntry k) fs
  stand : AllStandBehind gs [] fs

tables_sent : (gs : List TextGroup) (k : ℕ) (ts : List (List TextFlow)) → ((j : ℕ) → j < length ts → IsTable gs (k + j) (slice_index_or ts j [])) → AllByRecursion Fits (rows_of_flows (all_flows ts)) → AreSent gs k ts
tables_sent gs k [] h fits = tt
tables_sent gs k (fs ∷ ts) h fits =
    let zero_is : k + 0 ≡ k = omega arith in
    let here : IsTable gs k fs = subst (λ (n : ℕ). IsTable gs n fs) zero_is (h 0 (omega arith)) in
    let sent = flows_sent k fs (all_flows ts) here.low here.own here.entries fits in
    let others = tables_sent gs (suc k) ts (λ j l. let is : k + suc j ≡ suc k + j = omega arith in subst (λ (n : ℕ). IsTable gs n (slice_index_or ts j [])) is (h (suc j) (omega (arith, l)))) sent.1 in
    (record { sent = sent.0; stand = here.stand }, others)

many : (c : Configuration) → IsConfig c → length c.tables ≡ 16
many c k = ap length k.filled ∙ sixteen k.flows

pub all_sent : (c : Configuration) → IsConfig c → AreSent c.groups 0 c.tables
all_sent c k =
    let n = many c k in
    let each : (j : ℕ) → j < length c.tables → IsTable c.groups (0 + j) (slice_index_or c.tables j []) = λ j l.
    let small : j < 16 = omega (arith, l, n) in
    let own : AllFor j (slice_index_or c.tables j []) = rw (k.filled, text_table_at k.flows j small) (all_for j k.flows) in
    let zero_is : j ≡ 0 + j = omega arith in
    subst (λ (i : ℕ). IsTable c.groups i (slice_index_or c.tables j [])) zero_is (record { low = small; own = own; entries = config_entries c k j small; stand = config_stands c k j small }) in
    tables_sent c.groups 0 c.tables each (config_fits c k).1

-- ---- each is a command

abbrev AreCommands : List (List ℕ) → Type 0
AreCommands ms = AllByRecursion (λ (m : List ℕ). is_command m ≡ true) ms

is_of : (kind xid : ℕ) (body : List ℕ) → length body ≤ 65527 → (eqb kind GROUP_MOD || eqb kind FLOW_MOD) ≡ true → is_command (message kind xid body) ≡ true
is_of kind xid body few is =
    let one = one_message kind xid body few in
    let m = message kind xid body in
    and_from _ _ (le-leb 8 (length m) one.header) (and_from _ _ (eq-eqb (length_of m) (length m) one.whole) is)

group_is : (xid : ℕ) (all : List Group) (g : TextGroup) → IsSentGroup all g → is_command (group_add_bytes xid (new_of g)) ≡ true
group_is xid all g s =
    let outer = and_parts (are_fit (buckets_of g) && not (is_bad_watch g.head.kind (buckets_of g))) (not (is_not_one g.head.kind (buckets_of g))) s.fit in
    let inner = and_parts (are_fit (buckets_of g)) (not (is_bad_watch g.head.kind (buckets_of g))) outer.0 in
    let body = group_add_fixed_part (new_of g) ++ canonical_buckets (buckets_of g) in
    is_of 15 xid body (omega (arith, length_front (new_of g), length-append (group_add_fixed_part (new_of g)) (canonical_buckets (buckets_of g)), buckets_short (buckets_of g) inner.0)) refl

flow_is : (xid table : ℕ) (f : TextFlow) → IsSent table f → is_command (flow_mod_bytes xid (add_of f)) ≡ true
flow_is xid table f s =
    let tail = canonical f.fields ++ canonical_instructions f.instructions in
    is_of 14 xid (flow_mod_fixed_part (add_of f) ++ tail)
    (omega (arith, length_flow_mod (add_of f), length-append (flow_mod_fixed_part (add_of f)) tail, length-append (canonical f.fields) (canonical_instructions f.instructions), canonical_short f.fields s.entry.fields.rising, instructions_short f.instructions s.entry.kept)) refl

groups_are : (xid : ℕ) (all : List Group) (gs : List TextGroup) → AllByRecursion (IsSentGroup all) gs → AreCommands (group_adds xid gs)
groups_are xid all [] h = tt
groups_are xid all (g ∷ gs) h = (group_is xid all g h.0, groups_are (xid + 1) all gs h.1)

table_are : (xid table : ℕ) (fs rest : List TextFlow) → AllByRecursion (IsSent table) fs → ((x : ℕ) → AreCommands (flow_adds x rest)) → AreCommands (flow_adds xid (fs ++ rest))
table_are xid table [] rest h others = others xid
table_are xid table (f ∷ fs) rest h others = (flow_is xid table f h.0, table_are (xid + 1) table fs rest h.1 others)

flows_are : (gs : List TextGroup) (k : ℕ) (ts : List (List TextFlow)) → AreSent gs k ts → (xid : ℕ) → AreCommands (flow_adds xid (all_flows ts))
flows_are gs k [] sent xid = tt
flows_are gs k (fs ∷ rest) sent xid = table_are xid k fs (all_flows rest) sent.0.sent (flows_are gs (suc k) rest sent.1)

in_turn_sent : (gs : List TextGroup) → AreSentGroups gs → AllByRecursion (IsSentGroup (groups_at 0 gs)) (in_turn gs)
in_turn_sent gs all =
    let kept : (n : ℕ) → AllByRecursion (IsSentGroup (groups_at 0 gs)) (of_length gs n gs) = λ n. all_kept (IsSentGroup (groups_at 0 gs)) (λ (g : TextGroup). eqb (chain (groups_at 0 gs) g.head.id) n) gs all.each in
    all_both (IsSentGroup (groups_at 0 gs)) (of_length gs 1 gs) (of_length gs 2 gs ++ of_length gs 3 gs) (kept 1) (all_both (IsSentGroup (groups_at 0 gs)) (of_length gs 2 gs) (of_length gs 3 gs) (kept 2) (kept 3))

all_are : (c : Configuration) → IsConfig c → AreCommands (messages_of c)
unfolding messages_of
all_are c k =
    all_both (λ (m : List ℕ). is_command m ≡ true) (group_adds 1 (in_turn c.groups)) (flow_adds (1 + length (in_turn c.groups)) (all_flows c.tables))
    (groups_are 1 (groups_at 0 c.groups) (in_turn c.groups) (in_turn_sent c.groups (groups_sent c.groups (config_groups c k))))
    (flows_are c.groups 0 c.tables (all_sent c k) (1 + length (in_turn c.groups)))

-- ---- the run

flow_chunks : (xid : ℕ) (fs : List TextFlow) → flow_events xid fs ≡ map Chunk (flow_adds xid fs)
flow_chunks xid [] = refl
flow_chunks xid (f ∷ fs) = ap (λ (es : List Event). Chunk (flow_mod_bytes xid (add_of f)) ∷ es) (flow_chunks (xid + 1) fs)

group_chunks : (xid : ℕ) (gs : List TextGroup) (more : List Event) → group_events xid gs more ≡ map Chunk (group_adds xid gs) ++ more
group_chunks xid [] more = refl
group_chunks xid (g ∷ gs) more = ap (λ (es : List Event). Chunk (group_add_bytes xid (new_of g)) ∷ es) (group_chunks (xid + 1) gs more)

chunks : (c : Configuration) → group_events 1 (in_turn c.groups) (flow_events (1 + length (in_turn c.groups)) (all_flows c.tables)) ≡ map Chunk (messages_of c)
unfolding messages_of
chunks c =
    let next = 1 + length (in_turn c.groups) in
    group_chunks 1 (in_turn c.groups) (flow_events next (all_flows c.tables))
    ∙ (ap (λ (es : List Event). map Chunk (group_adds 1 (in_turn c.groups)) ++ es) (flow_chunks next (all_flows c.tables))
    ∙ sym (map-append Chunk (group_adds 1 (in_turn c.groups)) (flow_adds next (all_flows c.tables))))

abbrev end_of : Configuration → State
end_of c = ready (built 1 (groups_at 0 c.groups) (loaded_tables 0 c.tables))

messages_lead : (c : Configuration) → IsConfig c → Leads (map Chunk (messages_of c)) (ready (new_core 1)) (end_of c)
messages_lead c k =
    let flows = flow_events (1 + length (in_turn c.groups)) (all_flows c.tables) in
    subst (λ (es : List Event). Leads es (ready (new_core 1)) (end_of c)) (chunks c)
    (groups_lead 1 c.groups (empty_tables no_tables) flows (end_of c) refl (groups_sent c.groups (config_groups c k)) (flows_lead 1 (1 + length (in_turn c.groups)) c.groups c.tables (many c k) (all_sent c k)) 1)

first_gives : (a b : List Effect) (xs ys : List Report) → Gives a ∷ xs ≡ Gives b ∷ ys → a ≡ b
first_gives a b xs ys h = cc

others_give : (a b : List Effect) (xs ys : List Report) → Gives a ∷ xs ≡ Gives b ∷ ys → xs ≡ ys
others_give a b xs ys h = cc

-- messages to which the switch has nothing to say are accepted
accepted : (ms : List (List ℕ)) (s t : State) (place : ℕ) → AreCommands ms → Leads (map Chunk ms) s t → config_from place ms s ≡ Ok (config_of t)
accepted [] s t place are leads = ap (λ (r : Run). Ok (config_of r.state)) leads
accepted (m ∷ ms) s t place are leads = by_refusal (feed_refusal s) refl (accepted ms (chunk_in m s).state t (place + 1) are.1)
  where
    by_refusal : (r : Option SwitchError) → feed_refusal s ≡ r → (Leads (map Chunk ms) (chunk_in m s).state t → config_from (place + 1) ms (chunk_in m s).state ≡ Ok (config_of t)) → config_from place (m ∷ ms) s ≡ Ok (config_of t)
    by_refusal (Some e) is next =
        let here : happened (Chunk m) s ≡ unless_refusal (Some e) s (chunk_in m s) = ap (λ (r : Option SwitchError). unless_refusal r s (chunk_in m s)) is in
        absurd (let whole : IsRefused e ∷ (run (map Chunk ms) s).reports ≡ Gives [] ∷ replicate (length (map Chunk ms)) (Gives []) = ap (λ (h : Happened). h.report ∷ (run (map Chunk ms) h.state).reports) (sym here) ∙ ap (λ (r : Run). r.reports) leads in cc)
    by_refusal None is next =
        let o = chunk_in m s in
        let here : happened (Chunk m) s ≡ record { report = Gives o.effects; state = o.state } = ap (λ (r : Option SwitchError). unless_refusal r s o) is in
        let rest = run (map Chunk ms) o.state in
        let whole : record { reports = Gives o.effects ∷ rest.reports; state = rest.state } ≡ record { reports = Gives [] ∷ replicate (length (map Chunk ms)) (Gives []); state = t } =
        ap (λ (h : Happened). record { reports = h.report ∷ (run (map Chunk ms) h.state).reports; state = (run (map Chunk ms) h.state).state }) (sym here) ∙ leads in
        let told : Gives o.effects ∷ rest.reports ≡ Gives [] ∷ replicate (length (map Chunk ms)) (Gives []) = ap (λ (r : Run). r.reports) whole in
        let none : o.effects ≡ [] = first_gives o.effects [] rest.reports (replicate (length (map Chunk ms)) (Gives [])) told in
        let others : rest.reports ≡ replicate (length (map Chunk ms)) (Gives []) = others_give o.effects [] rest.reports (replicate (length (map Chunk ms)) (Gives [])) told in
        let later : Leads (map Chunk ms) o.state t = λ i. record { reports = others i; state = ap (λ (r : Run). r.state) whole i } in
        rw (are.0, none) (next later)

pub comes_back : (c : Configuration) → IsConfig c → config_by (messages_of c) ≡ Ok c
unfolding config_by
comes_back c k =
    ap (config_from 0 (messages_of c)) greeted_is
    ∙ (accepted (messages_of c) (ready (new_core 1)) (end_of c) 0 (all_are c k) (messages_lead c k)
    ∙ ap Ok (told_again c (start 1) k))
