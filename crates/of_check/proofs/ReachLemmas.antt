-- The tables that are counted as reached are those that ways lead to.
use Rattle.std.proofs.Common.{◌≡◌, ℕ, ◌+◌, ◌-◌, ◌<◌, ◌≤◌, ◌↔◌, zero, suc, Bool, true, false, cond, eqb, List, [], ◌∷◌, ◌++◌, length, refl, sym, ap, subst, ◌∙◌, arith, inl, inr}
use Rattle.std.proofs.lemmas.Bool.{and_from, and_parts, cases_lt, eq-eqb, eqb-true, ltb-true, or_cases}
use Rattle.std.{specs.Prelude.◌||◌, specs.List.AllByRecursion, specs.List.list_all, specs.List.list_any, proofs.lemmas.List.get_or_past}
use Rattle.std.proofs.lemmas.List.Folds.{list_any-append}
use Rattle.of_actions.specs.declared.instruction.Instruction.TheVariants.{Apply, Clear, Write, Metadata, Goto}
use Rattle.of_actions.specs.{declared.instruction.Instruction.Instruction, InstructionLists.is_for}
use Rattle.of_text.{specs.Flows.Flow, specs.Flows.goes_to, specs.Kept.IsEntry, specs.Configs.Configuration, specs.Configs.IsConfig, proofs.EntryLemmas.config_entries, proofs.FillLemmas.sixteen}
use Rattle.of_check.specs.Tables.{IsReached, flows_at, is_led_to, is_reached, is_way, leads_to_table, reached_below}

or_left : (a b : Bool) → a ≡ true → (a || b) ≡ true
or_left true b e = refl
or_left false b e = absurd cc

or_right : (a b : Bool) → b ≡ true → (a || b) ≡ true
or_right true b e = refl
or_right false b e = e

abbrev is_in : List ℕ → ℕ → Bool
is_in ns t = list_any (λ n. eqb n t) ns

module _ (tables : List (List Flow)) where
  -- ---- what is counted is led to

  way_more : (from next to : ℕ) (way : List ℕ) → is_way tables from way next ≡ true → leads_to_table tables next to ≡ true → is_way tables from (way ++ to ∷ []) to ≡ true
  way_more from next to [] w l =
      let same : from ≡ next = eqb-true from next w in
      and_from (leads_to_table tables from to) (eqb to to) (subst (λ (x : ℕ). leads_to_table tables x to ≡ true) (sym same) l) (eq-eqb to to refl)
  way_more from next to (x ∷ way) w l =
      let both = and_parts (leads_to_table tables from x) (is_way tables x way next) w in
      and_from (leads_to_table tables from x) (is_way tables x (way ++ to ∷ []) to) both.0 (way_more x next to way both.1 l)

  led_on : (k : ℕ) (froms : List ℕ) → ((t : ℕ) → is_in froms t ≡ true → IsReached tables t) → list_any (λ from. leads_to_table tables from k) froms ≡ true → IsReached tables k
  led_on k [] all h = absurd cc
  led_on k (x ∷ froms) all h = elim (or_cases (leads_to_table tables x k) (list_any (λ from. leads_to_table tables from k) froms) h) as (λ w. IsReached tables k) [
    | inl here ↦ (let first = all x (or_left (eqb x x) (is_in froms x) (eq-eqb x x refl)) in (first.0 ++ k ∷ [], way_more 0 x k first.0 first.1 here))
    | inr later ↦ led_on k froms (λ t i. all t (or_right (eqb x t) (is_in froms t) i)) later
  ]

  led_to : (k : ℕ) (froms : List ℕ) → ((t : ℕ) → is_in froms t ≡ true → IsReached tables t) → is_led_to tables froms k ≡ true → IsReached tables k
  led_to k froms all h = elim (or_cases (eqb k 0) (list_any (λ from. leads_to_table tables from k) froms) h) as (λ w. IsReached tables k) [
    | inl start ↦ ([], eq-eqb 0 k (sym (eqb-true k 0 start)))
    | inr led ↦ led_on k froms all led
  ]

  one_more : (k : ℕ) (old : List ℕ) (b : Bool) → is_led_to tables old k ≡ b → ((t : ℕ) → is_in old t ≡ true → IsReached tables t) → (t : ℕ) → is_in (cond b (old ++ k ∷ []) old) t ≡ true → IsReached tables t
  one_more k old false e all t i = all t i
  one_more k old true e all t i =
      let split = or_cases (is_in old t) (is_in (k ∷ []) t) (sym (list_any-append (λ n. eqb n t) old (k ∷ [])) ∙ i) in
      elim split as (λ w. IsReached tables t) [
        | inl before ↦ all t before
        | inr last ↦ elim (or_cases (eqb k t) false last) as (λ w. IsReached tables t) [
          | inl same ↦ subst (λ (x : ℕ). IsReached tables x) (eqb-true k t same) (led_to k old all e)
          | inr none ↦ absurd cc
        ]
      ]

  counted_are_reached : (k t : ℕ) → is_in (reached_below tables k) t ≡ true → IsReached tables t
  unfolding reached_below
  counted_are_reached zero t i = absurd cc
  counted_are_reached (suc k) t i = one_more k (reached_below tables k) (is_led_to tables (reached_below tables k) k) refl (counted_are_reached k) t i

  -- ---- what is led to is counted, where GOTO_TABLE leads to later tables alone

  grown : (k t : ℕ) (old : List ℕ) (b : Bool) → is_in old t ≡ true → is_in (cond b (old ++ k ∷ []) old) t ≡ true
  grown k t old false i = i
  grown k t old true i = list_any-append (λ n. eqb n t) old (k ∷ []) ∙ or_left (is_in old t) (is_in (k ∷ []) t) i

  stays : (k t more : ℕ) → is_in (reached_below tables k) t ≡ true → is_in (reached_below tables (more + k)) t ≡ true
  unfolding reached_below
  stays k t zero i = let same : zero + k ≡ k = omega arith in subst (λ (x : ℕ). is_in (reached_below tables x) t ≡ true) (sym same) i
  stays k t (suc more) i =
      let same : suc more + k ≡ suc (more + k) = omega arith in
      subst (λ (x : ℕ). is_in (reached_below tables x) t ≡ true) (sym same) (grown (more + k) t (reached_below tables (more + k)) (is_led_to tables (reached_below tables (more + k)) (more + k)) (stays k t more i))

  stays_to : (k m t : ℕ) → k ≤ m → is_in (reached_below tables k) t ≡ true → is_in (reached_below tables m) t ≡ true
  stays_to k m t le i =
      let same : (m - k) + k ≡ m = omega arith in
      subst (λ (x : ℕ). is_in (reached_below tables x) t ≡ true) same (stays k t (m - k) i)

  led_by : (from to : ℕ) (froms : List ℕ) → is_in froms from ≡ true → leads_to_table tables from to ≡ true → list_any (λ x. leads_to_table tables x to) froms ≡ true
  led_by from to [] i l = absurd cc
  led_by from to (x ∷ froms) i l = elim (or_cases (eqb x from) (is_in froms from) i) as (λ w. list_any (λ y. leads_to_table tables y to) (x ∷ froms) ≡ true) [
    | inl same ↦ or_left (leads_to_table tables x to) (list_any (λ y. leads_to_table tables y to) froms) (subst (λ (y : ℕ). leads_to_table tables y to ≡ true) (sym (eqb-true x from same)) l)
    | inr later ↦ or_right (leads_to_table tables x to) (list_any (λ y. leads_to_table tables y to) froms) (led_by from to froms later l)
  ]

  is_last : (k : ℕ) (old : List ℕ) (b : Bool) → b ≡ true → is_in (cond b (old ++ k ∷ []) old) k ≡ true
  is_last k old true e = list_any-append (λ n. eqb n k) old (k ∷ []) ∙ or_right (is_in old k) (is_in (k ∷ []) k) (or_left (eqb k k) false (eq-eqb k k refl))
  is_last k old false e = absurd cc

  counted_itself : (k : ℕ) → is_led_to tables (reached_below tables k) k ≡ true → is_in (reached_below tables (suc k)) k ≡ true
  unfolding reached_below
  counted_itself k h = is_last k (reached_below tables k) (is_led_to tables (reached_below tables k) k) h

  module _ (rising : (from to : ℕ) → leads_to_table tables from to ≡ true → from < to) where
    along : (way : List ℕ) (from to : ℕ) → is_in (reached_below tables (suc from)) from ≡ true → is_way tables from way to ≡ true → is_in (reached_below tables (suc to)) to ≡ true
    along [] from to i w = subst (λ (x : ℕ). is_in (reached_below tables (suc x)) x ≡ true) (eqb-true from to w) i
    along (x ∷ way) from to i w =
        let both = and_parts (leads_to_table tables from x) (is_way tables x way to) w in
        let lt : from < x = rising from x both.0 in
        let there = stays_to (suc from) x from (omega arith) i in
        along way x to (counted_itself x (or_right (eqb x 0) (list_any (λ y. leads_to_table tables y x) (reached_below tables x)) (led_by from x (reached_below tables x) there both.0))) both.1

    reached_are_counted : (t : ℕ) → t < 16 → IsReached tables t → is_in (reached_below tables 16) t ≡ true
    reached_are_counted t lt r = stays_to (suc t) 16 t (omega arith) (along r.0 0 t (counted_itself 0 (or_left (eqb 0 0) (list_any (λ y. leads_to_table tables y 0) (reached_below tables 0)) refl)) r.1)

-- ---- GOTO_TABLE of a configuration

instruction_rises : (from to : ℕ) (instructions : List Instruction) → list_all (is_for from) instructions ≡ true → list_any (goes_to to) instructions ≡ true → from < to
instruction_rises from to [] all some = absurd cc
instruction_rises from to (s ∷ instructions) all some =
    let both = and_parts (is_for from s) (list_all (is_for from) instructions) all in
    elim (or_cases (goes_to to s) (list_any (goes_to to) instructions) some) as (λ w. from < to) [
      | inl here ↦ by_instruction s both.0 here
      | inr later ↦ instruction_rises from to instructions both.1 later
    ]
  where
    by_instruction : (x : Instruction) → is_for from x ≡ true → goes_to to x ≡ true → from < to
    by_instruction (Goto t) up here = omega (arith, ltb-true from t up, eqb-true t to here)
    by_instruction (Apply actions) up here = absurd cc
    by_instruction Clear up here = absurd cc
    by_instruction (Write actions) up here = absurd cc
    by_instruction (Metadata value mask) up here = absurd cc

flows_rise : (from to : ℕ) (flows : List Flow) → AllByRecursion (IsEntry from) flows → list_any (λ f. list_any (goes_to to) f.instructions) flows ≡ true → from < to
flows_rise from to [] all some = absurd cc
flows_rise from to (f ∷ flows) all some = elim (or_cases (list_any (goes_to to) f.instructions) (list_any (λ g. list_any (goes_to to) g.instructions) flows) some) as (λ w. from < to) [
  | inl here ↦ instruction_rises from to f.instructions all.0.leads_on here
  | inr later ↦ flows_rise from to flows all.1 later
]

config_rises : (c : Configuration) → IsConfig c → (from to : ℕ) → leads_to_table c.tables from to ≡ true → from < to
config_rises c k from to l = elim (cases_lt from 16) as (λ w. from < to) [
  | inl lt ↦ flows_rise from to (flows_at c.tables from) (config_entries c k from lt) l
  | inr le ↦ (
      let few : length c.tables ≡ 16 = ap length k.filled ∙ sixteen k.flows in
      let none : flows_at c.tables from ≡ [] = get_or_past c.tables from [] (omega (arith, few, le)) in
      let no : false ≡ true = subst (λ (x : List Flow). list_any (λ f. list_any (goes_to to) f.instructions) x ≡ true) none l in
      absurd cc)
]

pub reached_both : (c : Configuration) (table : ℕ) → IsConfig c → table < 16 → (is_reached c.tables table ≡ true) ↔ IsReached c.tables table
reached_both c table k lt = (counted_are_reached c.tables 16 table, reached_are_counted c.tables (config_rises c k) table lt)
