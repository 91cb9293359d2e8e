-- Tables that flows fill one after the other.
use Rattle.std.proofs.Common.{◌≡◌, ℕ, suc, zero, ◌+◌, ◌-◌, ◌<◌, eqb, Bool, true, false, List, [], ◌∷◌, ◌++◌, length, get_or, set, vec_len, Some, None, refl, sym, ◌∙◌, ap, append_assoc, arith}
use Rattle.std.proofs.lemmas.List.{append-nil, length-append, length-map, reverse-append, reverse-reverse, length-reverse, map-append, map-set, get_or-map}
use Rattle.std.{specs.Prelude.reverse, specs.Prelude.nat_lt, specs.Prelude.slice_index_or, specs.Global.Vec, proofs.lemmas.Bool.eq-eqb, proofs.lemmas.Bool.ne_eqb, proofs.lemmas.Bool.ltb-false}
use Rattle.std.proofs.lemmas.List.Elements.{filter-append}
use Rattle.of_wire.specs.{declared.code.Code.Code, Refusals.first_of}
use Rattle.of_text.specs.Configs.{tables_from, tables_of_flows, IsConfig, with_flow_in_table, view_table, view_tables, view_config}
use Rattle.of_text.specs.{declared.flow.FlowText.FlowText, declared.group.GroupText.GroupText, Groups.TextGroup, Flows.Flow, Refusals.flow_refusals, Refusals.table_refusals}
use Rattle.of_text.specs.{Views.view, Views.view_flows, First.flows_for, First.refusals_behind, First.refused_from}

-- ---- one more flow

abbrev is_for : ℕ → Flow → Bool
is_for table f = eqb f.head.table table

for_more : (t : ℕ) (before : List Flow) (f : Flow) → f.head.table ≡ t → flows_for t (before ++ f ∷ []) ≡ flows_for t before ++ f ∷ []
for_more t before f is = filter-append (is_for t) before (f ∷ []) ∙ rw (eq-eqb f.head.table t is) refl

for_same : (t : ℕ) (before : List Flow) (f : Flow) → (f.head.table ≡ t → ⊥) → flows_for t (before ++ f ∷ []) ≡ flows_for t before
for_same t before f apart = filter-append (is_for t) before (f ∷ []) ∙ rw (ne_eqb f.head.table t apart) (append-nil (flows_for t before))

later_same : (n t : ℕ) (before : List Flow) (f : Flow) → f.head.table < t → tables_from n t (before ++ f ∷ []) ≡ tables_from n t before
later_same zero t before f h = refl
later_same (suc n) t before f h = rw (for_same t before f (λ i. omega (arith, i, h)), later_same n (suc t) before f (omega (arith, h))) refl

set_one : (n t i : ℕ) (before : List Flow) (f : Flow) → f.head.table ≡ t + i → i < n → tables_from n t (before ++ f ∷ []) ≡ set (tables_from n t before) i (flows_for f.head.table before ++ f ∷ [])
set_one zero t i before f is h = absurd (omega (arith, h))
set_one (suc n) t zero before f is h =
    let here : f.head.table ≡ t = omega (arith, is) in
    rw (for_more t before f here, later_same n (suc t) before f (omega (arith, here)))
    (ap (λ (u : ℕ). (flows_for u before ++ f ∷ []) ∷ tables_from n (suc t) before) (sym here))
set_one (suc n) t (suc i) before f is h =
    rw (for_same t before f (λ e. omega (arith, e, is)))
    (ap (λ (x : List (List Flow)). flows_for t before ∷ x) (set_one n (suc t) i before f (omega (arith, is)) (omega (arith, h))))

at_table : (n t i : ℕ) (fs : List Flow) → i < n → get_or (tables_from n t fs) i [] ≡ flows_for (t + i) fs
at_table zero t i fs h = absurd (omega (arith, h))
at_table (suc n) t zero fs h = ap (λ (u : ℕ). flows_for u fs) (omega arith)
at_table (suc n) t (suc i) fs h = at_table n (suc t) i fs (omega (arith, h)) ∙ ap (λ (u : ℕ). flows_for u fs) (omega arith)

pub table_at : (fs : List Flow) (t : ℕ) → t < 16 → slice_index_or (tables_of_flows fs) t [] ≡ flows_for t fs
unfolding tables_of_flows
table_at fs t h = at_table 16 0 t fs h ∙ ap (λ (u : ℕ). flows_for u fs) (omega arith)

pub tables_more : (before : List Flow) (f : Flow) → f.head.table < 16 → tables_of_flows (before ++ f ∷ []) ≡ with_flow_in_table f (tables_of_flows before)
unfolding tables_of_flows
tables_more before f h =
    set_one 16 0 f.head.table before f (omega arith) h
    ∙ ap (λ (x : List Flow). set (tables_from 16 0 before) f.head.table (x ++ f ∷ [])) (sym (table_at before f.head.table h))

none_from : (n t i : ℕ) → get_or (tables_from n t []) i [] ≡ []
none_from zero t i = refl
none_from (suc n) t zero = refl
none_from (suc n) t (suc i) = none_from n (suc t) i

pub none_before : (t : ℕ) → slice_index_or (tables_of_flows []) t [] ≡ []
unfolding tables_of_flows
none_before t = none_from 16 0 t

length_tables : (n t : ℕ) (fs : List Flow) → length (tables_from n t fs) ≡ n
length_tables zero t fs = refl
length_tables (suc n) t fs = let others = length_tables n (suc t) fs in omega (arith, others)

pub sixteen : (fs : List Flow) → length (tables_of_flows fs) ≡ 16
unfolding tables_of_flows
sixteen fs = length_tables 16 0 fs

-- what is refused after the flows in tables
pub refusal_same : (gs : List TextGroup) (before : List Flow) (f : Flow) → first_of (flow_refusals f ++ table_refusals gs (slice_index_or (tables_of_flows before) f.head.table []) f) ≡ first_of (refusals_behind gs before f)
unfolding flow_refusals
refusal_same gs before f = by_test (nat_lt 15 f.head.table) refl
  where
    by_test : (b : Bool) → nat_lt 15 f.head.table ≡ b → first_of (flow_refusals f ++ table_refusals gs (slice_index_or (tables_of_flows before) f.head.table []) f) ≡ first_of (refusals_behind gs before f)
    by_test true e = rw e refl
    by_test false e =
        let small = ltb-false 15 f.head.table e in
        ap (λ (x : List Flow). first_of (flow_refusals f ++ table_refusals gs x f)) (table_at before f.head.table (omega (arith, small)))

-- ---- the flows that are left, from the last on

pub record Filling (gs : List TextGroup) (all : List Flow) (left : List FlowText) (tables : List (Vec FlowText)) : Type 0 where
  pub before : List Flow
  pub whole : all ≡ before ++ view_flows (reverse left)
  pub place : length all ≡ length before + length left
  pub filled : view_tables tables ≡ tables_of_flows before
  pub so_far : refused_from gs [] all ≡ refused_from gs before (view_flows (reverse left))

pub filling_sixteen : (gs : List TextGroup) (all : List Flow) (left : List FlowText) (tables : List (Vec FlowText)) → Filling gs all left tables → length tables ≡ 16
filling_sixteen gs all left tables g = let a = length-map tables (λ (t : Vec FlowText). view_flows t.items) in let b = ap length g.filled in let c = sixteen g.before in omega (arith, a, b, c)

pub filling_start : (gs : List TextGroup) (flows left : List FlowText) (tables : List (Vec FlowText)) → view_tables tables ≡ tables_of_flows [] → left ≡ reverse flows → Filling gs (view_flows flows) left tables
filling_start gs flows left tables t l = record {
  before = [];
  whole = ap view_flows (sym (ap reverse l ∙ reverse-reverse flows));
  place = omega (arith, length-map flows view, length-reverse flows, ap length l);
  filled = t;
  so_far = ap (λ (x : List FlowText). refused_from gs [] (view_flows x)) (sym (ap reverse l ∙ reverse-reverse flows));
}

next_left : (left : List FlowText) (x : FlowText) → view_flows (reverse (left ++ x ∷ [])) ≡ view x ∷ view_flows (reverse left)
next_left left x = ap view_flows (reverse-append left (x ∷ []))

-- what is refused of the next
refusal_is : (gs : List TextGroup) (all : List Flow) (left : List FlowText) (tables : List (Vec FlowText)) (g : Filling gs all left tables) (x : FlowText) → first_of (flow_refusals (view x) ++ table_refusals gs (slice_index_or (view_tables tables) (view x).head.table []) (view x)) ≡ first_of (refusals_behind gs g.before (view x))
refusal_is gs all left tables g x = ap (λ (ts : List (List Flow)). first_of (flow_refusals (view x) ++ table_refusals gs (slice_index_or ts (view x).head.table []) (view x))) g.filled ∙ refusal_same gs g.before (view x)

pub filling_more : (gs : List TextGroup) (all : List Flow) (old left : List FlowText) (tables more : List (Vec FlowText)) (x : FlowText) → Filling gs all old tables → old ≡ left ++ x ∷ []
    → first_of (flow_refusals (view x) ++ table_refusals gs (slice_index_or (view_tables tables) (view x).head.table []) (view x)) ≡ None
    → (view x).head.table < 16 → view_tables more ≡ with_flow_in_table (view x) (view_tables tables) → Filling gs all left more
filling_more gs all old left tables more x g e n small put =
    let none : first_of (refusals_behind gs g.before (view x)) ≡ None = sym (refusal_is gs all old tables g x) ∙ n in
    let next : view_flows (reverse old) ≡ view x ∷ view_flows (reverse left) = ap (λ (l : List FlowText). view_flows (reverse l)) e ∙ next_left left x in
    record {
      before = g.before ++ view x ∷ [];
      whole = g.whole ∙ (ap (λ (l : List Flow). g.before ++ l) next ∙ sym (append_assoc g.before (view x ∷ []) (view_flows (reverse left))));
      place = omega (arith, g.place, ap length e, length-append left (x ∷ []), length-append g.before (view x ∷ []));
      filled = put ∙ (ap (with_flow_in_table (view x)) g.filled ∙ sym (tables_more g.before (view x) small));
      so_far = g.so_far ∙ (ap (refused_from gs g.before) next ∙ rw none refl);
    }

pub filling_stops : (gs : List TextGroup) (all : List Flow) (old left : List FlowText) (tables : List (Vec FlowText)) (x : FlowText) (code : Code) (place : ℕ) → Filling gs all old tables → old ≡ left ++ x ∷ []
    → first_of (flow_refusals (view x) ++ table_refusals gs (slice_index_or (view_tables tables) (view x).head.table []) (view x)) ≡ Some code
    → place ≡ length gs + (length all - 1 - length left) → refused_from gs [] all ≡ Some (place, code)
filling_stops gs all old left tables x code place g e r p =
    let one : first_of (refusals_behind gs g.before (view x)) ≡ Some code = sym (refusal_is gs all old tables g x) ∙ r in
    let next : view_flows (reverse old) ≡ view x ∷ view_flows (reverse left) = ap (λ (l : List FlowText). view_flows (reverse l)) e ∙ next_left left x in
    let there : length gs + length g.before ≡ place = omega (arith, p, g.place, ap length e, length-append left (x ∷ [])) in
    g.so_far ∙ (ap (refused_from gs g.before) next ∙ rw (one, there) refl)

pub filling_done : (gs : List TextGroup) (all : List Flow) (left : List FlowText) (tables : List (Vec FlowText)) → Filling gs all left tables → left ≡ [] → (view_tables tables ≡ tables_of_flows all) × (refused_from gs [] all ≡ None)
filling_done gs all left tables g e =
    let whole : all ≡ g.before = g.whole ∙ (ap (λ (l : List FlowText). g.before ++ view_flows (reverse l)) e ∙ append-nil g.before) in
    (g.filled ∙ ap tables_of_flows (sym whole), g.so_far ∙ ap (λ (l : List FlowText). refused_from gs g.before (view_flows (reverse l))) e)

-- ---- as tables are in memory

pub put_there : (tables : List (Vec FlowText)) (old new d : Vec FlowText) (x : FlowText) → (view x).head.table < length tables → old ≡ get_or tables (view x).head.table d → new.items ≡ old.items ++ x ∷ [] → view_tables (set tables (view x).head.table new) ≡ with_flow_in_table (view x) (view_tables tables)
put_there tables old new d x lt is put =
    let there : get_or (view_tables tables) (view x).head.table [] ≡ view_table old = get_or-map view_table tables (view x).head.table d [] lt ∙ ap view_table (sym is) in
    let more : view_table new ≡ view_table old ++ view x ∷ [] = ap view_flows put ∙ map-append view old.items (x ∷ []) in
    map-set view_table tables (view x).head.table new
    ∙ ap (set (view_tables tables) (view x).head.table) (more ∙ ap (λ (l : List Flow). l ++ view x ∷ []) (sym there))

pub lent_table : (tables : List (Vec FlowText)) (t : ℕ) (table d : Vec FlowText) → t < length tables → table ≡ get_or tables t d → view_table table ≡ slice_index_or (view_tables tables) t []
lent_table tables t table d lt is = ap view_table is ∙ sym (get_or-map view_table tables t d [] lt)

pub config_sixteen : (groups : Vec GroupText) (tables : Vec (Vec FlowText)) → IsConfig (view_config groups tables) → length tables.items ≡ 16
config_sixteen groups tables c = let a = length-map tables.items view_table in let b = ap length c.filled in let d = sixteen c.flows in omega (arith, a, b, d)

pub none_left : (v : Vec FlowText) → (0 < vec_len v → ⊥) → v.items ≡ []
none_left v h = by_items v.items (λ p. h (omega (arith, p, v.ok)))
  where
    by_items : (xs : List FlowText) → (0 < length xs → ⊥) → xs ≡ []
    by_items [] h = refl
    by_items (x ∷ xs) h = absurd (h (omega arith))
