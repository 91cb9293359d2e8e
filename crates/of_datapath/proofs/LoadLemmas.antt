-- Tables that are loaded, flow by flow and table by table.
use Rattle.std.proofs.Common.{◌≡◌, ℕ, zero, suc, ◌+◌, ◌<◌, ◌≤◌, false, List, [], ◌∷◌, ◌++◌, length, drop, get_or, set, None, refl, sym, ◌∙◌, ap, subst, append_assoc, add-one, drop-cons, arith}
use Rattle.std.specs.Prelude.{map, max, nat_le, replicate, slice_index_or}
use Rattle.std.{specs.List.AllByRecursion, specs.List.list_any, proofs.lemmas.Bool.Decides.nat_tests, proofs.lemmas.List.append-nil, proofs.lemmas.List.map-append, proofs.lemmas.List.length-map}
use Rattle.of_text.specs.{declared.flow.FlowText.FlowText, Flows.Flow as TextFlow, Refusals.has_same_match as is_same_text, Groups.TextGroup, Kept.IsEntry, Kept.AllStandBehind}
use Rattle.of_text.specs.Views.{view, view_flows}
use Rattle.of_table.specs.Table.{FlowEntry, Table, empty_table, is_same, added}
use Rattle.of_table.specs.Tables.{Tables, NumberedTables, no_tables, tables_of, table_at, with_table, added_to, tables_fault, left_in}
use Rattle.of_table.{specs.Entries.table_of, specs.declared.selection.Cause.TheVariants.Moment, proofs.PlaceLemmas.find_none, proofs.PlaceLemmas.filter_others}
use Rattle.of_datapath.specs.Loading.{loaded_flow, loaded_entry, loaded_table, loaded_tables}

-- ---- one more flow

same_any : (now : ℕ) (f : TextFlow) (before : List TextFlow) → list_any (is_same (loaded_flow f)) (map (loaded_entry now) before) ≡ list_any (is_same_text f) before
same_any now f [] = refl
same_any now f (g ∷ gs) = rw (same_any now f gs) refl

added_last : (now : ℕ) (f : TextFlow) (before : List TextFlow) → list_any (is_same_text f) before ≡ false → added now (loaded_flow f) (map (loaded_entry now) before) ≡ map (loaded_entry now) (before ++ f ∷ [])
added_last now f before h =
    let none : list_any (is_same (loaded_flow f)) (map (loaded_entry now) before) ≡ false = same_any now f before ∙ h in
    rw (find_none (is_same (loaded_flow f)) (map (loaded_entry now) before) none, filter_others (is_same (loaded_flow f)) (map (loaded_entry now) before) none)
    (sym (map-append (loaded_entry now) before (f ∷ [])))

get_set : {X : Type 0} (xs : List X) (k : ℕ) (x d : X) → k < length xs → get_or (set xs k x) k d ≡ x
get_set [] k x d lt = absurd (omega (arith, lt))
get_set (y ∷ xs) zero x d lt = refl
get_set (y ∷ xs) (suc k) x d lt = get_set xs k x d (omega (arith, lt))

set_set : {X : Type 0} (xs : List X) (k : ℕ) (x y : X) → set (set xs k x) k y ≡ set xs k y
set_set [] k x y = refl
set_set (z ∷ xs) zero x y = refl
set_set {X} (z ∷ xs) (suc k) x y = ap (λ (ys : List X). z ∷ ys) (set_set xs k x y)

set_same : {X : Type 0} (xs : List X) (k : ℕ) (x d : X) → k < length xs → get_or xs k d ≡ x → set xs k x ≡ xs
set_same [] k x d lt is = absurd (omega (arith, lt))
set_same {X} (y ∷ xs) zero x d lt is = ap (λ (z : X). z ∷ xs) (sym is)
set_same {X} (y ∷ xs) (suc k) x d lt is = ap (λ (ys : List X). y ∷ ys) (set_same xs k x d (omega (arith, lt)) is)

-- nothing refuses it
pub no_fault : (k : ℕ) (f : TextFlow) (ts : Tables) → k < 16 → list_any (is_same (loaded_flow f)) (table_at k ts).flows ≡ false → length (table_at k ts).flows < 4096 → tables_fault k (loaded_flow f) ts ≡ None
no_fault k f ts lt unlike room =
    let a : nat_le 16 k ≡ false = grind (arith, nat_tests) in
    let b : nat_le 4096 (length (table_at k ts).flows) ≡ false = grind (arith, nat_tests) in
    rw (a, unlike, b) refl

pub sixteen_tables : (n : NumberedTables) (k : ℕ) → length n.tables ≡ 16 → k < 16 → k < length (tables_of n).tables
sixteen_tables n k s lt = let same = length-map n.tables table_of in omega (arith, s, lt, same)

pub next_left : (fs : List FlowText) (i : ℕ) (x : FlowText) → i < length fs → x ≡ get_or fs i x → drop i fs ≡ x ∷ drop (i + 1) fs
next_left fs i x lt is =
    let parts : drop i fs ≡ get_or fs i x ∷ drop (i + 1) fs = rw (add-one, drop-cons fs i x) refl in
    parts ∙ ap (λ (y : FlowText). y ∷ drop (i + 1) fs) (sym is)

-- without entries, at a moment
pub at_moment : (latest : ℕ) (old : NumberedTables) → old ≡ no_tables → left_in (Moment latest) (tables_of old) ≡ record (tables_of no_tables) { latest = latest }
at_moment latest old e =
    let same : max 0 latest ≡ latest = omega arith in
    ap (λ (n : NumberedTables). left_in (Moment latest) (tables_of n)) e ∙ ap (λ (m : ℕ). record (tables_of no_tables) { latest = m }) same

-- ---- a table, of which the flows that are left come after those that are loaded

pub record Loading (table : ℕ) (all : List TextFlow) (left : List FlowText) (old new : Tables) : Type 0 where
  pub before : List TextFlow
  pub whole : all ≡ before ++ view_flows left
  pub entries : AllByRecursion (IsEntry table) (view_flows left)
  pub groups : List TextGroup
  pub stand : AllStandBehind groups before (view_flows left)
  pub is : new ≡ with_table table (loaded_table old.latest before) old

pub loading_start : (table : ℕ) (groups : List TextGroup) (flows : List FlowText) (old : Tables) → table < length old.tables → AllByRecursion (IsEntry table) (view_flows flows) → AllStandBehind groups [] (view_flows flows) → table_at table old ≡ empty_table → Loading table (view_flows flows) flows old old
loading_start table groups flows old lt entries stand empty = record {
  before = [];
  whole = refl;
  entries = entries;
  groups = groups;
  stand = stand;
  is = sym (λ i. record { tables = set_same old.tables table (loaded_table old.latest []) empty_table lt empty i; latest = old.latest });
}

there : (table now : ℕ) (before : List TextFlow) (old new : Tables) → table < length old.tables → new ≡ with_table table (loaded_table now before) old → table_at table new ≡ loaded_table now before
there table now before old new lt is = ap (table_at table) is ∙ get_set old.tables table (loaded_table now before) empty_table lt

pub loading_next : (table : ℕ) (all : List TextFlow) (left rest : List FlowText) (x : FlowText) (old new : Tables) → table < length old.tables → (l : Loading table all left old new) → left ≡ x ∷ rest
    → IsEntry table (view x) × (list_any (is_same (loaded_flow (view x))) (table_at table new).flows ≡ false) × (length (table_at table new).flows < 4096)
loading_next table all left rest x old new lt l e =
    let entries : AllByRecursion (IsEntry table) (view_flows (x ∷ rest)) = subst (λ (fs : List FlowText). AllByRecursion (IsEntry table) (view_flows fs)) e l.entries in
    let stand : AllStandBehind l.groups l.before (view_flows (x ∷ rest)) = subst (λ (fs : List FlowText). AllStandBehind l.groups l.before (view_flows fs)) e l.stand in
    let at = there table old.latest l.before old new lt l.is in (
      entries.0,
      ap (λ (t : Table). list_any (is_same (loaded_flow (view x))) t.flows) at ∙ (same_any old.latest (view x) l.before ∙ stand.0.unlike),
      omega (arith, ap (λ (t : Table). length t.flows) at, length-map l.before (loaded_entry old.latest), stand.0.room),
    )

pub loading_more : (table : ℕ) (all : List TextFlow) (left rest : List FlowText) (x : FlowText) (old now new : Tables) → table < length old.tables → Loading table all left old now → left ≡ x ∷ rest
    → new ≡ added_to table (loaded_flow (view x)) now → Loading table all rest old new
loading_more table all left rest x old now new lt l e is =
    let entries : AllByRecursion (IsEntry table) (view_flows (x ∷ rest)) = subst (λ (fs : List FlowText). AllByRecursion (IsEntry table) (view_flows fs)) e l.entries in
    let stand : AllStandBehind l.groups l.before (view_flows (x ∷ rest)) = subst (λ (fs : List FlowText). AllStandBehind l.groups l.before (view_flows fs)) e l.stand in
    let at = there table old.latest l.before old now lt l.is in
    let moment : now.latest ≡ old.latest = ap (λ (t : Tables). t.latest) l.is in
    let last = added_last old.latest (view x) l.before stand.0.unlike in
    let table_is : record (table_at table now) { flows = added now.latest (loaded_flow (view x)) (table_at table now).flows } ≡ loaded_table old.latest (l.before ++ view x ∷ []) =
    rw (at, moment) (ap (λ (fs : List FlowEntry). record { lookups = 0; matched = 0; flows = fs }) last) in
    let tables_are : now.tables ≡ set old.tables table (loaded_table old.latest l.before) = ap (λ (t : Tables). t.tables) l.is in
    record {
      before = l.before ++ view x ∷ [];
      whole = l.whole ∙ (ap (λ (fs : List FlowText). l.before ++ view_flows fs) e ∙ sym (append_assoc l.before (view x ∷ []) (view_flows rest)));
      entries = entries.1;
      groups = l.groups;
      stand = stand.1;
      is = is ∙ (λ i. record {
        tables = (ap (λ (t : Table). set now.tables table t) table_is
            ∙ (ap (λ (ts : List Table). set ts table (loaded_table old.latest (l.before ++ view x ∷ []))) tables_are
            ∙ set_set old.tables table (loaded_table old.latest l.before) (loaded_table old.latest (l.before ++ view x ∷ [])))) i;
        latest = moment i;
      });
    }

pub loading_done : (table : ℕ) (all : List TextFlow) (left : List FlowText) (old new : Tables) → Loading table all left old new → left ≡ [] → new ≡ with_table table (loaded_table old.latest all) old
loading_done table all left old new l e =
    let whole : all ≡ l.before = l.whole ∙ (ap (λ (fs : List FlowText). l.before ++ view_flows fs) e ∙ append-nil l.before) in
    l.is ∙ ap (λ (fs : List TextFlow). with_table table (loaded_table old.latest fs) old) (sym whole)

-- ---- table by table

-- so many tables are loaded
abbrev pub filled : ℕ → ℕ → List (List TextFlow) → List Table
filled now k [] = []
filled now zero (t ∷ ts) = empty_table ∷ filled now zero ts
filled now (suc k) (t ∷ ts) = loaded_table now t ∷ filled now k ts

pub filled_none : (now : ℕ) (ts : List (List TextFlow)) → filled now 0 ts ≡ replicate (length ts) empty_table
filled_none now [] = refl
filled_none now (t ∷ ts) = ap (λ (us : List Table). empty_table ∷ us) (filled_none now ts)

pub filled_next : (now k : ℕ) (ts : List (List TextFlow)) → k < length ts → get_or (filled now k ts) k empty_table ≡ empty_table
filled_next now k [] lt = absurd (omega (arith, lt))
filled_next now zero (t ∷ ts) lt = refl
filled_next now (suc k) (t ∷ ts) lt = filled_next now k ts (omega (arith, lt))

pub filled_more : (now k : ℕ) (ts : List (List TextFlow)) → k < length ts → set (filled now k ts) k (loaded_table now (get_or ts k [])) ≡ filled now (suc k) ts
filled_more now k [] lt = absurd (omega (arith, lt))
filled_more now zero (t ∷ ts) lt = refl
filled_more now (suc k) (t ∷ ts) lt = ap (λ (us : List Table). loaded_table now t ∷ us) (filled_more now k ts (omega (arith, lt)))

pub filled_all : (now k : ℕ) (ts : List (List TextFlow)) → length ts ≤ k → filled now k ts ≡ map (loaded_table now) ts
filled_all now k [] le = refl
filled_all now zero (t ∷ ts) le = absurd (omega (arith, le))
filled_all now (suc k) (t ∷ ts) le = ap (λ (us : List Table). loaded_table now t ∷ us) (filled_all now k ts (omega (arith, le)))

-- so many of the tables are loaded
abbrev pub FilledTo : ℕ → ℕ → List (List TextFlow) → Tables → Type 0
FilledTo now k ts new = new ≡ record { tables = filled now k ts; latest = now }

pub filled_begun : (now : ℕ) (ts : List (List TextFlow)) (new : Tables) → length ts ≡ 16 → new ≡ record { tables = replicate 16 empty_table; latest = now } → FilledTo now 0 ts new
filled_begun now ts new n is = is ∙ (λ i. record { tables = (ap (λ (k : ℕ). replicate k empty_table) (sym n) ∙ sym (filled_none now ts)) i; latest = now })

pub filled_empty : (now k : ℕ) (ts : List (List TextFlow)) (new : Tables) → k < length ts → FilledTo now k ts new → table_at k new ≡ empty_table
filled_empty now k ts new lt is = ap (table_at k) is ∙ filled_next now k ts lt

pub filled_one : (now k : ℕ) (ts : List (List TextFlow)) (flows : List TextFlow) (old new : Tables) → k < length ts → FilledTo now k ts old → flows ≡ slice_index_or ts k [] → new ≡ with_table k (loaded_table old.latest flows) old → FilledTo now (k + 1) ts new
filled_one now k ts flows old new lt is f e =
    let moment : old.latest ≡ now = ap (λ (t : Tables). t.latest) is in
    let tables_are : old.tables ≡ filled now k ts = ap (λ (t : Tables). t.tables) is in
    let one : set (filled now k ts) k (loaded_table now (get_or ts k [])) ≡ filled now (k + 1) ts = rw add-one (filled_more now k ts lt) in
    let same : set old.tables k (loaded_table old.latest flows) ≡ filled now (k + 1) ts =
    ap (λ (us : List Table). set us k (loaded_table old.latest flows)) tables_are
    ∙ (ap (λ (n : ℕ). set (filled now k ts) k (loaded_table n flows)) moment
    ∙ (ap (λ (fs : List TextFlow). set (filled now k ts) k (loaded_table now fs)) f
    ∙ one)) in
    e ∙ (λ i. record { tables = same i; latest = moment i })

pub filled_done : (now k : ℕ) (ts : List (List TextFlow)) (new : Tables) → length ts ≤ k → FilledTo now k ts new → new ≡ loaded_tables now ts
filled_done now k ts new le is = is ∙ (λ i. record { tables = filled_all now k ts le i; latest = now })
