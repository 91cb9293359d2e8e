-- Flows, table by table.
use Rattle.std.proofs.Common.{◌≡◌, ℕ, suc, zero, ◌+◌, ◌<◌, ◌≤◌, eqb, Bool, true, false, cond, List, [], ◌∷◌, ◌++◌, length, Option, Some, None, refl, sym, ◌∙◌, ap, append_assoc, arith}
use Rattle.std.specs.{Prelude.map, Prelude.filter, Prelude.IsSome, List.AllByRecursion, List.flat_map, Option.option_map, Option.option_map_or}
use Rattle.std.proofs.{lemmas.Bool.eq-eqb, lemmas.Bool.ne_eqb, lemmas.Bool.eqb-true, lemmas.List.append-nil, lemmas.List.Elements.filter-append}
use Rattle.of_wire.specs.{declared.code.Code.Code, Refusals.first_of}
use Rattle.of_lines.specs.Order.{start_place, following, following_all, flow_next, flow_standing}
use Rattle.of_lines.specs.{declared.row.Row.Row, Lines.lines_of, Rows.Fits, declared.order.Place.Place}
use Rattle.of_lines.specs.declared.order.Place.TheVariants.{Start, InFlow}
use Rattle.of_lines.specs.{declared.row.FlowHead.FlowHead, Reading.◌>>=◌}
use Rattle.of_lines.specs.declared.row.Row.TheVariants as rows
use Rattle.of_text.specs.Flows.{Flow, flow_rows, rows_of_all_flows, instruction_rows, text_rows}
use Rattle.of_text.specs.First.{flows_for, refusals_behind, refused_from, refused_group, first_refusal}
use Rattle.of_text.specs.Configs.{Configuration, tables_from, tables_of_flows, IsConfig, EncodeConfig, all_flows, config_text}
use Rattle.of_text.proofs.TextLemmas.{all_front, all_back, all_both, standing_both, flow_both, some_front, one_list}
use Rattle.of_text.specs.{Groups.TextGroup, Groups.rows_of_groups, Refusals.all_there, Refusals.flow_refusals, Refusals.table_refusals, Texts.AreRows}
use Rattle.of_text.proofs.{GatherLemmas.all_in_flow, WriteLemmas.text_encodes}

-- ---- the flows of a table

abbrev is_for : ℕ → Flow → Bool
is_for table f = eqb f.head.table table

for_same : (t : ℕ) (fs : List Flow) → flows_for t (flows_for t fs) ≡ flows_for t fs
for_same t [] = refl
for_same t (f ∷ fs) = by_test (for_same t fs) (is_for t f) refl
  where
    by_test : flows_for t (flows_for t fs) ≡ flows_for t fs → (b : Bool) → is_for t f ≡ b → filter (is_for t) (cond (is_for t f) (f ∷ flows_for t fs) (flows_for t fs)) ≡ cond (is_for t f) (f ∷ flows_for t fs) (flows_for t fs)
    by_test others true e = rw e (rw e (ap (λ (x : List Flow). f ∷ x) others))
    by_test others false e = rw e others

for_other : (t u : ℕ) → (t ≡ u → ⊥) → (fs : List Flow) → flows_for u (flows_for t fs) ≡ []
for_other t u apart [] = refl
for_other t u apart (f ∷ fs) = by_test (for_other t u apart fs) (is_for t f) refl
  where
    by_test : flows_for u (flows_for t fs) ≡ [] → (b : Bool) → is_for t f ≡ b → filter (is_for u) (cond (is_for t f) (f ∷ flows_for t fs) (flows_for t fs)) ≡ []
    by_test others true e =
        let is : f.head.table ≡ t = eqb-true f.head.table t e in
        let not_u : is_for u f ≡ false = ne_eqb f.head.table u (λ i. apart (sym is ∙ i)) in
        rw e (rw not_u others)
    by_test others false e = rw e others

-- ---- the tables, one after the other

none_for : (n t u : ℕ) → u < t → (fs : List Flow) → flows_for u (all_flows (tables_from n t fs)) ≡ []
none_for zero t u h fs = refl
none_for (suc n) t u h fs =
    filter-append (is_for u) (flows_for t fs) (all_flows (tables_from n (suc t) fs))
    ∙ rw (for_other t u (λ i. omega (arith, i, h)) fs) (none_for n (suc t) u (omega (arith, h)) fs)

some_for : (n t u : ℕ) → t ≤ u → u < t + n → (fs : List Flow) → flows_for u (all_flows (tables_from n t fs)) ≡ flows_for u fs
some_for zero t u l h fs = absurd (omega (arith, l, h))
some_for (suc n) t u l h fs = by_test (λ i. some_for n (suc t) u (omega (arith, l, i)) (omega (arith, h)) fs) (eqb t u) refl
  where
    by_test : ((t ≡ u → ⊥) → flows_for u (all_flows (tables_from n (suc t) fs)) ≡ flows_for u fs) → (b : Bool) → eqb t u ≡ b → flows_for u (flows_for t fs ++ all_flows (tables_from n (suc t) fs)) ≡ flows_for u fs
    by_test others true e =
        let is : t ≡ u = eqb-true t u e in
        filter-append (is_for u) (flows_for t fs) (all_flows (tables_from n (suc t) fs))
        ∙ rw (none_for n (suc t) u (omega (arith, is)) fs) (append-nil (flows_for u (flows_for t fs)) ∙ rw is (for_same u fs))
    by_test others false e =
        let apart : t ≡ u → ⊥ = λ i. let same = eq-eqb t u i in absurd cc in
        filter-append (is_for u) (flows_for t fs) (all_flows (tables_from n (suc t) fs))
        ∙ rw (for_other t u apart fs) (others apart)

pub same_tables : (n t : ℕ) (fs gs : List Flow) → ((u : ℕ) → t ≤ u → u < t + n → flows_for u gs ≡ flows_for u fs) → tables_from n t gs ≡ tables_from n t fs
same_tables zero t fs gs h = refl
same_tables (suc n) t fs gs h =
    let one = h t (omega arith) (omega arith) in
    let others = same_tables n (suc t) fs gs (λ u l m. h u (omega (arith, l)) (omega (arith, m))) in
    rw (one, others) refl

pub tables_again : (fs : List Flow) → tables_of_flows (all_flows (tables_of_flows fs)) ≡ tables_of_flows fs
unfolding tables_of_flows
tables_again fs = same_tables 16 0 fs (all_flows (tables_from 16 0 fs)) (λ u l m. some_for 16 0 u l m fs)

-- ---- none of a table is refused

unfoldable pub Stand : List TextGroup → List Flow → List Flow → Type 0
Stand gs before [] = Unit {0}
Stand gs before (f ∷ fs) = (first_of (flow_refusals f ++ table_refusals gs before f) ≡ None) × Stand gs (before ++ f ∷ []) fs

pub both_none : {A B : Type 0} (g : A → B) (o : Option A) (d : Option B) → option_map_or (λ a. Some (g a)) o d ≡ None → (o ≡ None) × (d ≡ None)
both_none g None d h = (refl, h)
both_none g (Some a) d h = absurd cc

pub in_table : (gs : List TextGroup) (t : ℕ) (before fs : List Flow) → refused_from gs before fs ≡ None → Stand gs (flows_for t before) (flows_for t fs)
unfolding Stand
in_table gs t before [] h = tt
in_table gs t before (f ∷ fs) h =
    let parts = both_none (λ code. (length gs + length before, code)) (first_of (refusals_behind gs before f)) (refused_from gs (before ++ f ∷ []) fs) h in
    by_test parts.0 (in_table gs t (before ++ f ∷ []) fs parts.1) (is_for t f) refl
  where
    by_test : first_of (refusals_behind gs before f) ≡ None → Stand gs (flows_for t (before ++ f ∷ [])) (flows_for t fs) → (b : Bool) → is_for t f ≡ b → Stand gs (flows_for t before) (cond (is_for t f) (f ∷ flows_for t fs) (flows_for t fs))
    by_test one others true e =
        let is : f.head.table ≡ t = eqb-true f.head.table t e in
        let more : flows_for t (before ++ f ∷ []) ≡ flows_for t before ++ f ∷ [] = filter-append (is_for t) before (f ∷ []) ∙ rw e refl in
        rw e (ap (λ (u : ℕ). first_of (flow_refusals f ++ table_refusals gs (flows_for u before) f)) (sym is) ∙ one, rw more at others)
    by_test one others false e =
        let same : flows_for t (before ++ f ∷ []) ≡ flows_for t before = filter-append (is_for t) before (f ∷ []) ∙ rw e (append-nil (flows_for t before)) in
        rw e (rw same at others)

abbrev pub AllFor : ℕ → List Flow → Type 0
AllFor t fs = AllByRecursion (λ (f : Flow). f.head.table ≡ t) fs

pub all_for : (t : ℕ) (fs : List Flow) → AllFor t (flows_for t fs)
all_for t [] = tt
all_for t (f ∷ fs) = by_test (all_for t fs) (is_for t f) refl
  where
    by_test : AllFor t (flows_for t fs) → (b : Bool) → is_for t f ≡ b → AllFor t (cond (is_for t f) (f ∷ flows_for t fs) (flows_for t fs))
    by_test others true e = rw e (eqb-true f.head.table t e, others)
    by_test others false e = rw e others

pub stands_on : (gs : List TextGroup) (t : ℕ) (before fs rest : List Flow) → AllFor t fs → Stand gs (flows_for t before) fs → refused_from gs before (fs ++ rest) ≡ refused_from gs (before ++ fs) rest
unfolding Stand
stands_on gs t before [] rest a h = rw (append-nil before) refl
stands_on gs t before (f ∷ fs) rest a h =
    let is : f.head.table ≡ t = a.0 in
    let mine : is_for t f ≡ true = eq-eqb f.head.table t is in
    let more : flows_for t (before ++ f ∷ []) ≡ flows_for t before ++ f ∷ [] = filter-append (is_for t) before (f ∷ []) ∙ rw mine refl in
    let none : first_of (refusals_behind gs before f) ≡ None = ap (λ (u : ℕ). first_of (flow_refusals f ++ table_refusals gs (flows_for u before) f)) is ∙ h.0 in
    let others = stands_on gs t (before ++ f ∷ []) fs rest a.1 (rw more h.1) in
    rw none (others ∙ ap (λ (x : List Flow). refused_from gs x rest) (append_assoc before (f ∷ []) fs))

all_stand : (gs : List TextGroup) (n t : ℕ) (before fs : List Flow) → ((u : ℕ) → t ≤ u → flows_for u before ≡ []) → refused_from gs [] fs ≡ None → refused_from gs before (all_flows (tables_from n t fs)) ≡ None
all_stand gs zero t before fs e h = refl
all_stand gs (suc n) t before fs e h =
    let here : Stand gs (flows_for t before) (flows_for t fs) = rw (e t (omega arith)) (in_table gs t [] fs h) in
    stands_on gs t before (flows_for t fs) (all_flows (tables_from n (suc t) fs)) (all_for t fs) here
    ∙ all_stand gs n (suc t) (before ++ flows_for t fs) fs (λ u l. filter-append (is_for u) before (flows_for t fs) ∙ rw (e u (omega (arith, l)), for_other t u (λ i. omega (arith, i, l)) fs) refl) h

-- no group is refused, and no flow
pub none_refused : (a b : Option (ℕ × Code)) → option_map_or Some a b ≡ None → (a ≡ None) × (b ≡ None)
none_refused None b h = (refl, h)
none_refused (Some x) b h = absurd cc

pub groups_stand : (gs : List TextGroup) (fs : List Flow) → first_refusal gs fs ≡ None → refused_group (all_there gs) 0 gs ≡ None
groups_stand gs fs h = (none_refused (refused_group (all_there gs) 0 gs) (refused_from gs [] fs) h).0

pub flows_stand : (gs : List TextGroup) (fs : List Flow) → first_refusal gs fs ≡ None → refused_from gs [] fs ≡ None
flows_stand gs fs h = (none_refused (refused_group (all_there gs) 0 gs) (refused_from gs [] fs) h).1

pub both_stand : (gs : List TextGroup) (fs : List Flow) → refused_group (all_there gs) 0 gs ≡ None → refused_from gs [] fs ≡ None → first_refusal gs fs ≡ None
both_stand gs fs a b = ap (λ (o : Option (ℕ × Code)). option_map_or Some o (refused_from gs [] fs)) a ∙ b

-- ---- they are in order

abbrev pub body : Flow → List Row
body f = map rows.Match f.fields ++ flat_map instruction_rows f.instructions

pub record IsWhole (f : Flow) : Type 0 where
  pub fits : AllByRecursion Fits (flow_rows f)
  pub order : IsSome (flow_standing 0 (body f))

pub each_whole : (p : ℕ) (fs : List Flow) → AllByRecursion Fits (rows_of_all_flows fs) → IsSome (flow_standing p (rows_of_all_flows fs)) → AllByRecursion IsWhole fs
unfolding flow_next
each_whole p [] f o = tt
each_whole p (x ∷ xs) f o =
    let next = some_front (flow_standing 0 (body x)) (λ q. flow_standing q (rows_of_all_flows xs)) (rw (flow_both 0 (body x) (rows_of_all_flows xs)) at o) in
    (record { fits = all_front Fits (flow_rows x) (rows_of_all_flows xs) f; order = rw next.1 refl }, each_whole next.0 xs (all_back Fits (flow_rows x) (rows_of_all_flows xs) f) (rw (flow_both 0 (body x) (rows_of_all_flows xs), next.1) at o))

whole_fits : (fs : List Flow) → AllByRecursion IsWhole fs → AllByRecursion Fits (rows_of_all_flows fs)
whole_fits [] h = tt
whole_fits (x ∷ xs) h = all_both Fits (flow_rows x) (rows_of_all_flows xs) h.0.fits (whole_fits xs h.1)

is_some : (o : Option ℕ) → IsSome o → (q : ℕ) × (o ≡ Some q)
is_some None h = absurd cc
is_some (Some q) h = (q, refl)

whole_stands : (p : ℕ) (fs : List Flow) → AllByRecursion IsWhole fs → IsSome (flow_standing p (rows_of_all_flows fs))
unfolding flow_next
whole_stands p [] h = refl
whole_stands p (x ∷ xs) h =
    let next = is_some (flow_standing 0 (body x)) h.0.order in
    rw (flow_both 0 (body x) (rows_of_all_flows xs), next.1) (whole_stands next.0 xs h.1)

pub kept_whole : (t : ℕ) (fs : List Flow) → AllByRecursion IsWhole fs → AllByRecursion IsWhole (flows_for t fs)
kept_whole t [] h = tt
kept_whole t (f ∷ fs) h = by_test (kept_whole t fs h.1) (is_for t f) refl
  where
    by_test : AllByRecursion IsWhole (flows_for t fs) → (b : Bool) → is_for t f ≡ b → AllByRecursion IsWhole (cond (is_for t f) (f ∷ flows_for t fs) (flows_for t fs))
    by_test others true e = rw e (h.0, others)
    by_test others false e = rw e others

tables_whole : (n t : ℕ) (fs : List Flow) → AllByRecursion IsWhole fs → AllByRecursion IsWhole (all_flows (tables_from n t fs))
tables_whole zero t fs h = tt
tables_whole (suc n) t fs h = all_both IsWhole (flows_for t fs) (all_flows (tables_from n (suc t) fs)) (kept_whole t fs h) (tables_whole n (suc t) fs h)

-- after groups

flow_begins : (place : Place) (h : FlowHead) → following place (rows.Flow h) ≡ Some (InFlow 0)
unfolding following flow_next
flow_begins Start h = refl
flow_begins other h = refl

mapped_some : {A B : Type 0} (f : A → B) (o : Option A) → IsSome o → IsSome (option_map f o)
mapped_some f None h = absurd cc
mapped_some f (Some a) h = refl

some_mapped : {A B : Type 0} (f : A → B) (o : Option A) → IsSome (option_map f o) → IsSome o
some_mapped f None h = absurd cc
some_mapped f (Some a) h = refl

pub flows_whole : (place : Place) (fs : List Flow) → AllByRecursion Fits (rows_of_all_flows fs) → IsSome (following_all place (rows_of_all_flows fs)) → AllByRecursion IsWhole fs
unfolding flow_next
flows_whole place [] f o = tt
flows_whole place (x ∷ xs) f o =
    let inner : IsSome (following_all (InFlow 0) (body x ++ rows_of_all_flows xs)) = rw (flow_begins place x.head) at o in
    each_whole 0 (x ∷ xs) f (some_mapped InFlow (flow_standing 0 (body x ++ rows_of_all_flows xs)) (rw (all_in_flow 0 (body x ++ rows_of_all_flows xs)) at inner))

pub whole_placed : (place : Place) (fs : List Flow) → AllByRecursion IsWhole fs → IsSome (following_all place (rows_of_all_flows fs))
unfolding flow_next
whole_placed place [] h = refl
whole_placed place (x ∷ xs) h = rw (flow_begins place x.head, all_in_flow 0 (body x ++ rows_of_all_flows xs)) (mapped_some InFlow (flow_standing 0 (body x ++ rows_of_all_flows xs)) (whole_stands 0 (x ∷ xs) h))

-- groups that are in order, with flows after them
pub record Parts (gs : List TextGroup) (fs : List Flow) : Type 0 where
  pub fits : AllByRecursion Fits (rows_of_groups gs)
  pub place : Place
  pub order : following_all start_place (rows_of_groups gs) ≡ Some place
  pub whole : AllByRecursion IsWhole fs

pub parts_of : (gs : List TextGroup) (fs : List Flow) → AreRows (text_rows gs fs) → Parts gs fs
parts_of gs fs h =
    let both : IsSome (following_all start_place (rows_of_groups gs) >>= λ q. following_all q (rows_of_all_flows fs)) = rw (standing_both start_place (rows_of_groups gs) (rows_of_all_flows fs)) at h.order in
    let next = some_front (following_all start_place (rows_of_groups gs)) (λ q. following_all q (rows_of_all_flows fs)) both in
    record {
      fits = all_front Fits (rows_of_groups gs) (rows_of_all_flows fs) h.fits;
      place = next.0;
      order = next.1;
      whole = flows_whole next.0 fs (all_back Fits (rows_of_groups gs) (rows_of_all_flows fs) h.fits) (rw next.1 at both);
    }

pub rows_from : (gs : List TextGroup) (fs : List Flow) → Parts gs fs → AreRows (text_rows gs fs)
rows_from gs fs p = record {
  fits = all_both Fits (rows_of_groups gs) (rows_of_all_flows fs) p.fits (whole_fits fs p.whole);
  order = rw (standing_both start_place (rows_of_groups gs) (rows_of_all_flows fs), p.order) (whole_placed p.place fs p.whole);
}

pub rows_again : (gs : List TextGroup) (fs : List Flow) → AreRows (text_rows gs fs) → AreRows (text_rows gs (all_flows (tables_of_flows fs)))
unfolding tables_of_flows
rows_again gs fs h =
    let p = parts_of gs fs h in
    rows_from gs (all_flows (tables_from 16 0 fs)) (record { fits = p.fits; place = p.place; order = p.order; whole = tables_whole 16 0 fs p.whole })

-- ---- configurations

pub canonical_encodes : (c : Configuration) → IsConfig c → EncodeConfig (lines_of (config_text c)) c
unfolding tables_of_flows
canonical_encodes c k =
    rw k.filled (record {
      flows = all_flows (tables_of_flows k.flows);
      encoded = text_encodes c.groups (all_flows (tables_of_flows k.flows)) (rows_again c.groups k.flows k.rows);
      stand = both_stand c.groups (all_flows (tables_of_flows k.flows)) (groups_stand c.groups k.flows k.stand) (all_stand c.groups 16 0 [] k.flows (λ u l. refl) (flows_stand c.groups k.flows k.stand));
      filled = sym (tables_again k.flows);
    })

pub encoded_config : (lines : List (List ℕ)) (c : Configuration) → EncodeConfig lines c → IsConfig c
encoded_config lines c s = record { flows = s.flows; rows = s.encoded.allowed; stand = s.stand; filled = s.filled }

same_config : (a b : Configuration) → a.groups ≡ b.groups → a.tables ≡ b.tables → a ≡ b
same_config a b g t = ap (λ (x : List TextGroup). record { groups = x; tables = a.tables }) g ∙ ap (λ (x : List (List Flow)). record { groups = b.groups; tables = x }) t

pub one_config : (lines : List (List ℕ)) (a b : Configuration) → EncodeConfig lines a → EncodeConfig lines b → a ≡ b
one_config lines a b s t =
    let one = one_list lines a.groups b.groups s.flows t.flows s.encoded t.encoded in
    same_config a b one.0 (s.filled ∙ (ap tables_of_flows one.1 ∙ sym t.filled))

pub config_fits : (c : Configuration) → IsConfig c → AllByRecursion Fits (rows_of_groups c.groups) × AllByRecursion Fits (rows_of_all_flows (all_flows c.tables))
config_fits c k =
    let p = parts_of c.groups (all_flows (tables_of_flows k.flows)) (rows_again c.groups k.flows k.rows) in
    (p.fits, rw k.filled (whole_fits (all_flows (tables_of_flows k.flows)) p.whole))
