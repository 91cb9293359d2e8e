-- A configuration comes back from its file.
use Rattle.std.proofs.Common.{◌≡◌, ℕ, suc, ◌+◌, ◌<◌, ◌≤◌, eqb, true, List, [], ◌∷◌, ◌++◌, length, None, refl, sym, ◌∙◌, ap, subst, arith}
use Rattle.std.proofs.lemmas.Bool.{and_from, and_parts, eq-eqb, lt-ltb, not-true}
use Rattle.std.{specs.Prelude.map, specs.Prelude.replicate, specs.Prelude.slice_index_or, specs.List.AllByRecursion, specs.List.flat_map, specs.List.list_all, proofs.lemmas.Grind.flat_map-append}
use Rattle.std.proofs.lemmas.List.{length-map}
use Rattle.of_groups.specs.{declared.group.Group.Group, Chains.AreShort, Faults.is_absent, Groups.any_named, Groups.is_there, Sound.is_fit_group, Sound.is_whole}
use Rattle.of_groups.proofs.{ChainLaws.chain_at_most, ChainLaws.chain_there, NameLemmas.or_first, NameLemmas.or_true}
use Rattle.of_table.specs.Tables.{no_tables, tables_of as empty_tables}
use Rattle.of_text.specs.Groups.{TextBucket, TextGroup, bucket_of, bucket_rows, group_at, group_rows, groups_at, rows_of_groups}
use Rattle.of_text.specs.Configs.{Configuration, IsConfig, EncodeConfig, all_flows, config_text}
use Rattle.of_text.proofs.ConfigLemmas.{AllFor, all_for, config_fits, one_config, encoded_config}
use Rattle.of_text.specs.{Rows.Fits, Flows.Flow as TextFlow, Flows.flow_rows, Flows.rows_of_all_flows as rows_of_flows, Kept.AllStandBehind, Kept.AreKeptGroups, Kept.IsEntry}
use Rattle.of_text.{specs.Lines.lines_of as text_lines, proofs.EntryLemmas.config_entries, proofs.EntryLemmas.config_stands, proofs.FillLemmas.sixteen, proofs.FillLemmas.table_at as text_table_at}
use Rattle.of_text.proofs.{GroupLemmas.config_groups, TextLemmas.all_back, TextLemmas.all_front}
use Rattle.of_messages.specs.{CanonicalGroups.has_numbers, Written.hello_bytes}
use Rattle.of_session.specs.Session.{greeting}
use Rattle.of_build.specs.{Building.BuildsOf, Building.build_text, Building.hello, Building.chunk_line, Listing.flow_adds, Listing.group_adds, Listing.in_turn, Listing.messages_of}
use Rattle.of_datapath.specs.{declared.effect.Effect.TheVariants.Answer, Loading.loaded_tables}
use Rattle.of_switch.specs.{declared.event.Event.Event, declared.event.Event.TheVariants.Connect, declared.event.Event.TheVariants.Chunk, Loading.config_of, State.State, State.new_core, State.start}
use Rattle.of_switch.{specs.Runs.Gives, specs.Runs.Run, specs.Runs.run, proofs.ToldAgain.told_again}
use Rattle.of_replay.specs.{FileRuns.state_after_rows, FileRuns.switch_text, Lexing.lines_of_file, Play.lines_read, Rows.Rows, Rows.rows_of_lines}
use Rattle.of_replay.proofs.EventRowsRead.{IsShown, Means, means_connect, means_chunk}
use Rattle.of_laws.proofs.FlowsAdded.{AreSent, IsSent, flow_events, flows_lead, flows_shown}
use Rattle.of_laws.proofs.GroupsAdded.{AreSentGroups, IsSentGroup, group_events, groups_lead, groups_shown}
use Rattle.of_laws.{specs.RoundTrip.ComesBack, specs.RoundTrip.run_of_file, proofs.ByteLemmas.are_bytes, proofs.StreamMessages.built}
use Rattle.of_laws.proofs.Chunks.{Leads, greets, leads_first, ready}

-- ---- the groups of a configuration

numbers_fit : (bs : List TextBucket) → AllByRecursion Fits (flat_map bucket_rows bs) → list_all has_numbers (map bucket_of bs) ≡ true
unfolding has_numbers
numbers_fit [] h = refl
numbers_fit (b ∷ bs) h =
    let here = h.0 in
    and_from _ _ (and_from _ _ (and_from _ _ (lt-ltb _ _ here.0) (lt-ltb _ _ here.1)) (lt-ltb _ _ here.2)) (numbers_fit bs (all_back Fits (bucket_rows b) (flat_map bucket_rows bs) h))

there_among : (all : List Group) (gs : List TextGroup) → ((m : ℕ) → is_there m (groups_at 0 gs) ≡ true → is_there m all ≡ true) → AllByRecursion (λ (g : TextGroup). is_there g.head.id all ≡ true) gs
there_among all [] among = tt
there_among all (g ∷ gs) among = (
  among g.head.id (or_first (eqb g.head.id g.head.id) (is_there g.head.id (groups_at 0 gs)) (eq-eqb g.head.id g.head.id refl)),
  there_among all gs (λ m h. among m (or_true (eqb g.head.id m) (is_there m (groups_at 0 gs)) h)),
)

each_sent : (all : List Group) (gs : List TextGroup) → AreShort all → AllByRecursion Fits (rows_of_groups gs) → AllByRecursion (λ (g : TextGroup). g.head.id ≤ 0xffffff00) gs → list_all is_fit_group (groups_at 0 gs) ≡ true
    → list_all (is_whole all) (groups_at 0 gs) ≡ true → AllByRecursion (λ (g : TextGroup). is_there g.head.id all ≡ true) gs → AllByRecursion (IsSentGroup all) gs
each_sent all [] short fits numbers fit whole there = tt
each_sent all (g ∷ gs) short fits numbers fit whole there =
    let f = and_parts (is_fit_group (group_at 0 g)) (list_all is_fit_group (groups_at 0 gs)) fit in
    let w = and_parts (is_whole all (group_at 0 g)) (list_all (is_whole all) (groups_at 0 gs)) whole in
    let rows = all_front Fits (group_rows g) (rows_of_groups gs) fits in (
      record {
        number = numbers.0;
        numbers = numbers_fit g.buckets rows.1;
        fit = f.0;
        whole = not-true (any_named (is_absent all) (group_at 0 g)) w.0;
        some = chain_there all g.head.id there.0;
        short = chain_at_most all g.head.id short;
      },
      each_sent all gs short (all_back Fits (group_rows g) (rows_of_groups gs) fits) numbers.1 f.1 w.1 there.1,
    )

groups_sent : (gs : List TextGroup) → AreKeptGroups gs → AreSentGroups gs
groups_sent gs k = record {
  each = each_sent (groups_at 0 gs) gs k.sound.short k.fits k.numbers k.sound.fit k.sound.whole (there_among (groups_at 0 gs) gs (λ m h. h));
  rising = k.sound.rising;
  few = let few = k.sound.few in omega (arith, few, length-map gs (group_at 0));
  short = k.sound.short;
}

-- ---- its flows

flows_sent : (table : ℕ) (fs rest : List TextFlow) → table < 16 → AllFor table fs → AllByRecursion (IsEntry table) fs → AllByRecursion Fits (rows_of_flows (fs ++ rest)) → AllByRecursion (IsSent table) fs × AllByRecursion Fits (rows_of_flows rest)
flows_sent table [] rest low own entries fits = (tt, fits)
flows_sent table (f ∷ fs) rest low own entries fits =
    let others = flows_sent table fs rest low own.1 entries.1 (all_back Fits (flow_rows f) (rows_of_flows (fs ++ rest)) fits) in
    ((record { low = low; own = own.0; entry = entries.0; head = (all_front Fits (flow_rows f) (rows_of_flows (fs ++ rest)) fits).0 }, others.0), others.1)

-- what holds of each table
record IsTable (gs : List TextGroup) (k : ℕ) (fs : List TextFlow) : Type 0 where
  low : k < 16
  own : AllFor k fs
  entries : AllByRecursion (IsEntry k) fs
  stand : AllStandBehind gs [] fs

tables_sent : (gs : List TextGroup) (k : ℕ) (ts : List (List TextFlow)) → ((j : ℕ) → j < length ts → IsTable gs (k + j) (slice_index_or ts j [])) → AllByRecursion Fits (rows_of_flows (all_flows ts)) → AreSent gs k ts
tables_sent gs k [] h fits = tt
tables_sent gs k (fs ∷ ts) h fits =
    let zero_is : k + 0 ≡ k = omega arith in
    let here : IsTable gs k fs = subst (λ (n : ℕ). IsTable gs n fs) zero_is (h 0 (omega arith)) in
    let sent = flows_sent k fs (all_flows ts) here.low here.own here.entries fits in
    let others = tables_sent gs (suc k) ts (λ j l. let is : k + suc j ≡ suc k + j = omega arith in subst (λ (n : ℕ). IsTable gs n (slice_index_or ts j [])) is (h (suc j) (omega (arith, l)))) sent.1 in
    (record { sent = sent.0; stand = here.stand }, others)

many : (c : Configuration) → IsConfig c → length c.tables ≡ 16
many c k = ap length k.filled ∙ sixteen k.flows

all_sent : (c : Configuration) → IsConfig c → AreSent c.groups 0 c.tables
all_sent c k =
    let n = many c k in
    let each : (j : ℕ) → j < length c.tables → IsTable c.groups (0 + j) (slice_index_or c.tables j []) = λ j l.
    let small : j < 16 = omega (arith, l, n) in
    let own : AllFor j (slice_index_or c.tables j []) = rw (k.filled, text_table_at k.flows j small) (all_for j k.flows) in
    let zero_is : j ≡ 0 + j = omega arith in
    subst (λ (i : ℕ). IsTable c.groups i (slice_index_or c.tables j [])) zero_is (record { low = small; own = own; entries = config_entries c k j small; stand = config_stands c k j small }) in
    tables_sent c.groups 0 c.tables each (config_fits c k).1

-- ---- the file

-- what follows the HELLO
later : Configuration → List Event
later c = group_events 1 (in_turn c.groups) (flow_events (1 + length (in_turn c.groups)) (all_flows c.tables))

hello_shown : IsShown hello
hello_shown = record { each = are_bytes hello (record { each = (omega arith, (omega arith, (omega arith, (omega arith, (omega arith, (omega arith, (omega arith, (omega arith, tt)))))))) }); some = omega arith; few = omega arith }

file_means : (c : Configuration) → IsConfig c → Means (build_text c) (Connect ∷ Chunk hello ∷ later c)
unfolding build_text messages_of later
file_means c k =
    let groups = group_adds 1 (in_turn c.groups) in
    let adds = flow_adds (1 + length (in_turn c.groups)) (all_flows c.tables) in
    let flows = flat_map chunk_line adds in
    let sent = groups_sent c.groups (config_groups c k) in
    let rows = subst (λ (text : List ℕ). Means text (later c)) (sym (flat_map-append chunk_line groups adds)) (groups_shown 1 c.groups flows (flow_events (1 + length (in_turn c.groups)) (all_flows c.tables)) sent
    (flows_shown c.groups 0 c.tables (all_sent c k) (1 + length (in_turn c.groups)))) in
    means_connect (chunk_line hello ++ flat_map chunk_line (messages_of c)) (Chunk hello ∷ later c) (means_chunk hello (flat_map chunk_line (messages_of c)) (later c) hello_shown rows)

-- ---- the run

ends : (dpid : ℕ) (c : Configuration) → IsConfig c → Leads (Chunk hello ∷ later c) (record { connection = greeting; core = new_core dpid }) (ready (built dpid (groups_at 0 c.groups) (loaded_tables 0 c.tables)))
unfolding later
ends dpid c k =
    let end : State = ready (built dpid (groups_at 0 c.groups) (loaded_tables 0 c.tables)) in
    let flows = flow_events (1 + length (in_turn c.groups)) (all_flows c.tables) in
    leads_first (Chunk hello) (later c) (record { connection = greeting; core = new_core dpid }) (ready (new_core dpid)) end (greets (new_core dpid))
    (groups_lead dpid c.groups (empty_tables no_tables) flows end refl (groups_sent c.groups (config_groups c k)) (flows_lead dpid (1 + length (in_turn c.groups)) c.groups c.tables (many c k) (all_sent c k)) 1)

whole_run : (dpid : ℕ) (c : Configuration) → IsConfig c
    → run (Connect ∷ Chunk hello ∷ later c) (start dpid) ≡ record { reports = Gives (Answer hello_bytes ∷ []) ∷ replicate (length (Chunk hello ∷ later c)) (Gives []); state = ready (built dpid (groups_at 0 c.groups) (loaded_tables 0 c.tables)) }
whole_run dpid c k = ap (λ (r : Run). record { reports = Gives (Answer hello_bytes ∷ []) ∷ r.reports; state = r.state }) (ends dpid c k)

pub comes_back : (text : List ℕ) (config : Configuration) (dpid : ℕ) → EncodeConfig (text_lines text) config → ComesBack dpid (build_text config) config
comes_back text config dpid s =
    let k = encoded_config (text_lines text) config s in
    let rows = file_means config k in
    let all : run_of_file dpid (build_text config) ≡ record { reports = Gives (Answer hello_bytes ∷ []) ∷ replicate (length (Chunk hello ∷ later config)) (Gives []); state = ready (built dpid (groups_at 0 config.groups) (loaded_tables 0 config.tables)) } =
    ap (λ (r : Rows). run r.events (start dpid)) rows ∙ whole_run dpid config k in
    record {
      good = ap (λ (r : Rows). r.bad) rows;
      others = length (Chunk hello ∷ later config);
      quiet = ap (λ (r : Run). r.reports) all;
      core_is = ap (λ (r : Run). r.state.core) all;
      config_is = ap (λ (r : Run). config_of r.state) all ∙ told_again config (start dpid) k;
    }

-- ---- and back to text

pub good_again : (text file : List ℕ) → BuildsOf text file → (rows_of_lines (lines_read true file)).bad ≡ None
good_again text file b = ap (λ (bytes : List ℕ). (rows_of_lines (lines_of_file bytes)).bad) b.is ∙ (comes_back text b.config 1 b.encoded).good

pub text_again : (text file : List ℕ) (config : Configuration) → BuildsOf text file → EncodeConfig (text_lines text) config → switch_text (state_after_rows (rows_of_lines (lines_read true file))) ≡ config_text config
text_again text file config b s =
    let same : b.config ≡ config = one_config (text_lines text) b.config config b.encoded s in
    ap (λ (bytes : List ℕ). switch_text (state_after_rows (rows_of_lines (lines_of_file bytes)))) b.is
    ∙ (ap config_text (comes_back text b.config 1 b.encoded).config_is ∙ ap config_text same)
