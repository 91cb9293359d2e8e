-- Tables that are reached from those that are not among the rest.
use Rattle.std.proofs.Common.{◌≡◌, ℕ, ◌+◌, ◌<◌, ◌≤◌, Bool, true, false, cond, List, [], ◌∷◌, ◌++◌, length, Some, None, refl, sym, ap, subst, ◌∙◌, arith, inl, inr, eqb-true, eq-eqb}
use Rattle.std.specs.Prelude.{◌⊎◌, ◌↔◌, ◌&&◌, ◌||◌, ◌==◌, not, filter, find}
use Rattle.std.specs.List.{fold}
use Rattle.of_shadowing.specs.Reached.{First, IsTableReached, Later, has_flow, is_table_among, is_led_from_others, later_tables, leads_from_others, leads_from_to, with_table_of}
use Rattle.of_shadowing.specs.declared.listed_flow.ListedFlow.{ListedFlow}

or_split : (a b : Bool) → (a || b) ≡ true → (a ≡ true) ⊎ (b ≡ true)
or_split true b e = inl refl
or_split false b e = inr e

or_here : (a b : Bool) → a ≡ true → (a || b) ≡ true
or_here true b e = refl
or_here false b e = absurd cc

or_there : (a b : Bool) → b ≡ true → (a || b) ≡ true
or_there true b e = refl
or_there false b e = e

and_split : (a b : Bool) → (a && b) ≡ true → (a ≡ true) × (b ≡ true)
and_split true b e = (refl, e)
and_split false b e = absurd cc

and_both : (a b : Bool) → a ≡ true → b ≡ true → (a && b) ≡ true
and_both true b p q = q
and_both false b p q = absurd cc

not_so : (b : Bool) → not b ≡ true → b ≡ false
not_so true e = absurd cc
not_so false e = refl

so_not : (b : Bool) → b ≡ false → not b ≡ true
so_not true e = absurd cc
so_not false e = refl

same_number : (n : ℕ) → (n == n) ≡ true
same_number n = eq-eqb n n refl

-- what leads to a table from another one
pub record LedFrom (flows : List ListedFlow) (tables : List ℕ) (to : ℕ) : Type 0 where
  pub from : ℕ
  pub other : is_table_among tables from ≡ false
  pub has : has_flow flows from ≡ true
  pub leads : leads_from_to flows from to ≡ true

module _ (tables : List ℕ) (to : ℕ) where
  pub led_from : (flows : List ListedFlow) → is_led_from_others flows tables to ≡ true → LedFrom flows tables to
  unfolding leads_from_others
  led_from [] e = absurd cc
  led_from (f ∷ flows) e = elim (or_split (leads_from_others tables to f) (is_led_from_others flows tables to) e) as (λ w. LedFrom (f ∷ flows) tables to) [
    | inl here ↦ let h = and_split (not (is_table_among tables f.table)) (is_table_among f.leads.tables.items to) here in record {
      from = f.table;
      other = not_so (is_table_among tables f.table) h.0;
      has = or_here (f.table == f.table) (has_flow flows f.table) (same_number f.table);
      leads = or_here (f.table == f.table && is_table_among f.leads.tables.items to) (leads_from_to flows f.table to) (and_both (f.table == f.table) (is_table_among f.leads.tables.items to) (same_number f.table) h.1);
    }
    | inr there ↦ let k = led_from flows there in record {
      from = k.from;
      other = k.other;
      has = or_there (f.table == k.from) (has_flow flows k.from) k.has;
      leads = or_there (f.table == k.from && is_table_among f.leads.tables.items to) (leads_from_to flows k.from to) k.leads;
    }
  ]

  pub led_so : (from : ℕ) (flows : List ListedFlow) → is_table_among tables from ≡ false → leads_from_to flows from to ≡ true → is_led_from_others flows tables to ≡ true
  unfolding leads_from_others
  led_so from [] o e = absurd cc
  led_so from (f ∷ flows) o e = elim (or_split (f.table == from && is_table_among f.leads.tables.items to) (leads_from_to flows from to) e) as (λ w. is_led_from_others (f ∷ flows) tables to ≡ true) [
    | inl here ↦ let h = and_split (f.table == from) (is_table_among f.leads.tables.items to) here in
        let same : f.table ≡ from = eqb-true f.table from h.0 in
        or_here (leads_from_others tables to f) (is_led_from_others flows tables to) (and_both (not (is_table_among tables f.table)) (is_table_among f.leads.tables.items to) (so_not (is_table_among tables f.table) (ap (is_table_among tables) same ∙ o)) h.1)
    | inr there ↦ or_there (leads_from_others tables to f) (is_led_from_others flows tables to) (led_so from flows o there)
  ]

-- ---- what is found

pub found : (p : ℕ → Bool) (xs : List ℕ) (x : ℕ) → find p xs ≡ Some x → (is_table_among xs x ≡ true) × (p x ≡ true)
found p [] x e = absurd cc
found p (y ∷ xs) x e = by_test (λ there. found p xs x there) (p y) refl e
  where
    by_test : (find p xs ≡ Some x → (is_table_among xs x ≡ true) × (p x ≡ true)) → (b : Bool) → p y ≡ b → cond b (Some y) (find p xs) ≡ Some x → (is_table_among (y ∷ xs) x ≡ true) × (p x ≡ true)
    by_test later true is here = let same : y ≡ x = cc in (or_here (y == x) (is_table_among xs x) (eq-eqb y x same), sym (ap p same) ∙ is)
    by_test later false is there = let h = later there in (or_there (y == x) (is_table_among xs x) h.0, h.1)

pub not_found : (p : ℕ → Bool) (xs : List ℕ) → find p xs ≡ None → (x : ℕ) → is_table_among xs x ≡ true → p x ≡ false
not_found p [] e x h = absurd cc
not_found p (y ∷ xs) e x h = by_test (λ none there. not_found p xs none x there) (p y) refl e
  where
    by_test : (find p xs ≡ None → is_table_among xs x ≡ true → p x ≡ false) → (b : Bool) → p y ≡ b → cond b (Some y) (find p xs) ≡ None → p x ≡ false
    by_test later true is none = absurd cc
    by_test later false is none = elim (or_split (y == x) (is_table_among xs x) h) as (λ w. p x ≡ false) [
      | inl same ↦ sym (ap p (eqb-true y x same)) ∙ is
      | inr there ↦ later none there
    ]

-- ---- what is removed

abbrev without : ℕ → List ℕ → List ℕ
without x xs = filter (λ t. not (t == x)) xs

pub stayed : (x : ℕ) (xs : List ℕ) (t : ℕ) → is_table_among (without x xs) t ≡ true → is_table_among xs t ≡ true
stayed x [] t e = e
stayed x (y ∷ xs) t e = by_test (stayed x xs t) (y == x) e
  where
    by_test : (is_table_among (without x xs) t ≡ true → is_table_among xs t ≡ true) → (b : Bool) → is_table_among (cond (not b) (y ∷ without x xs) (without x xs)) t ≡ true → is_table_among (y ∷ xs) t ≡ true
    by_test later true there = or_there (y == t) (is_table_among xs t) (later there)
    by_test later false some = elim (or_split (y == t) (is_table_among (without x xs) t) some) as (λ w. is_table_among (y ∷ xs) t ≡ true) [
      | inl here ↦ or_here (y == t) (is_table_among xs t) here
      | inr there ↦ or_there (y == t) (is_table_among xs t) (later there)
    ]

-- what is not there any more is the one that was removed, or was not there before
pub removed : (x : ℕ) (xs : List ℕ) (t : ℕ) → is_table_among (without x xs) t ≡ false → (is_table_among xs t ≡ false) ⊎ (t ≡ x)
removed x [] t e = inl e
removed x (y ∷ xs) t e = by_test (removed x xs t) (y == x) (y == t) refl refl e
  where
    by_test : (is_table_among (without x xs) t ≡ false → (is_table_among xs t ≡ false) ⊎ (t ≡ x)) → (b here : Bool) → (y == x) ≡ b → (y == t) ≡ here → is_table_among (cond (not b) (y ∷ without x xs) (without x xs)) t ≡ false → (is_table_among (y ∷ xs) t ≡ false) ⊎ (t ≡ x)
    by_test later true true same h none = inr (sym (eqb-true y t h) ∙ eqb-true y x same)
    by_test later true false same h none = rw h (later none)
    by_test later false true same h none = let k : ((y == t) || is_table_among (without x xs) t) ≡ true = or_here (y == t) (is_table_among (without x xs) t) h in absurd cc
    by_test later false false same h none = rw h (later (rw h at none))

no_longer : (x : ℕ) (xs : List ℕ) → length (without x xs) ≤ length xs
no_longer x [] = omega arith
no_longer x (y ∷ xs) = by_test (y == x) (no_longer x xs)
  where
    by_test : (b : Bool) → length (without x xs) ≤ length xs → length (cond (not b) (y ∷ without x xs) (without x xs)) ≤ length (y ∷ xs)
    by_test true le = omega (arith, le)
    by_test false le = omega (arith, le)

pub shorter : (x : ℕ) (xs : List ℕ) → is_table_among xs x ≡ true → length (without x xs) < length xs
shorter x [] e = absurd cc
shorter x (y ∷ xs) e = by_test (shorter x xs) (y == x) refl e (no_longer x xs)
  where
    by_test : (is_table_among xs x ≡ true → length (without x xs) < length xs) → (b : Bool) → (y == x) ≡ b → (b || is_table_among xs x) ≡ true → length (without x xs) ≤ length xs → length (cond (not b) (y ∷ without x xs) (without x xs)) < length (y ∷ xs)
    by_test later true same some le = omega (arith, le)
    by_test later false other there le = let lt = later there in omega (arith, lt)

-- ---- the tables of flows

pushed : (xs : List ℕ) (y t : ℕ) → is_table_among xs t ≡ true → is_table_among (xs ++ y ∷ []) t ≡ true
pushed [] y t e = absurd cc
pushed (x ∷ xs) y t e = elim (or_split (x == t) (is_table_among xs t) e) as (λ w. is_table_among (x ∷ xs ++ y ∷ []) t ≡ true) [
  | inl here ↦ or_here (x == t) (is_table_among (xs ++ y ∷ []) t) here
  | inr there ↦ or_there (x == t) (is_table_among (xs ++ y ∷ []) t) (pushed xs y t there)
]

pushed_last : (xs : List ℕ) (y : ℕ) → is_table_among (xs ++ y ∷ []) y ≡ true
pushed_last [] y = or_here (y == y) false (same_number y)
pushed_last (x ∷ xs) y = or_there (x == y) (is_table_among (xs ++ y ∷ []) y) (pushed_last xs y)

pushed_only : (xs : List ℕ) (y t : ℕ) → is_table_among (xs ++ y ∷ []) t ≡ true → (is_table_among xs t ≡ true) ⊎ (y ≡ t)
pushed_only [] y t e = elim (or_split (y == t) false e) as (λ w. (is_table_among [] t ≡ true) ⊎ (y ≡ t)) [
  | inl here ↦ inr (eqb-true y t here)
  | inr there ↦ absurd cc
]
pushed_only (x ∷ xs) y t e = elim (or_split (x == t) (is_table_among (xs ++ y ∷ []) t) e) as (λ w. (is_table_among (x ∷ xs) t ≡ true) ⊎ (y ≡ t)) [
  | inl here ↦ inl (or_here (x == t) (is_table_among xs t) here)
  | inr there ↦ elim (pushed_only xs y t there) as (λ w. (is_table_among (x ∷ xs) t ≡ true) ⊎ (y ≡ t)) [
    | inl old ↦ inl (or_there (x == t) (is_table_among xs t) old)
    | inr new ↦ inr new
  ]
]

step_keeps : (tables : List ℕ) (f : ListedFlow) (t : ℕ) → is_table_among tables t ≡ true → is_table_among (with_table_of tables f) t ≡ true
step_keeps tables f t e = by_test (f.table == 0 || is_table_among tables f.table)
  where
    by_test : (b : Bool) → is_table_among (cond b tables (tables ++ f.table ∷ [])) t ≡ true
    by_test true = e
    by_test false = pushed tables f.table t e

step_has : (tables : List ℕ) (f : ListedFlow) → (f.table == 0) ≡ false → is_table_among (with_table_of tables f) f.table ≡ true
step_has tables f z = by_test (f.table == 0 || is_table_among tables f.table) refl
  where
    by_test : (b : Bool) → (f.table == 0 || is_table_among tables f.table) ≡ b → is_table_among (cond b tables (tables ++ f.table ∷ [])) f.table ≡ true
    by_test true e = elim (or_split (f.table == 0) (is_table_among tables f.table) e) as (λ w. is_table_among tables f.table ≡ true) [
      | inl zero_so ↦ absurd cc
      | inr there ↦ there
    ]
    by_test false e = pushed_last tables f.table

step_only : (tables : List ℕ) (f : ListedFlow) (t : ℕ) → is_table_among (with_table_of tables f) t ≡ true → (is_table_among tables t ≡ true) ⊎ ((f.table ≡ t) × ((t == 0) ≡ false))
step_only tables f t e = by_test (f.table == 0) (is_table_among tables f.table) refl e
  where
    by_test : (z there : Bool) → (f.table == 0) ≡ z → is_table_among (cond (z || there) tables (tables ++ f.table ∷ [])) t ≡ true → (is_table_among tables t ≡ true) ⊎ ((f.table ≡ t) × ((t == 0) ≡ false))
    by_test true there z old = inl old
    by_test false true z old = inl old
    by_test false false z some = elim (pushed_only tables f.table t some) as (λ w. (is_table_among tables t ≡ true) ⊎ ((f.table ≡ t) × ((t == 0) ≡ false))) [
      | inl old ↦ inl old
      | inr new ↦ inr (new, sym (ap (λ n. n == 0) new) ∙ z)
    ]

all_keep : (flows : List ListedFlow) (tables : List ℕ) (t : ℕ) → is_table_among tables t ≡ true → is_table_among (fold with_table_of tables flows) t ≡ true
all_keep [] tables t e = e
all_keep (f ∷ flows) tables t e = all_keep flows (with_table_of tables f) t (step_keeps tables f t e)

all_have : (flows : List ListedFlow) (tables : List ℕ) (t : ℕ) → has_flow flows t ≡ true → (t == 0) ≡ false → is_table_among (fold with_table_of tables flows) t ≡ true
all_have [] tables t e z = absurd cc
all_have (f ∷ flows) tables t e z = elim (or_split (f.table == t) (has_flow flows t) e) as (λ w. is_table_among (fold with_table_of (with_table_of tables f) flows) t ≡ true) [
  | inl here ↦ let same : f.table ≡ t = eqb-true f.table t here in
      all_keep flows (with_table_of tables f) t (subst (λ n. is_table_among (with_table_of tables f) n ≡ true) same (step_has tables f (ap (λ n. n == 0) same ∙ z)))
  | inr there ↦ all_have flows (with_table_of tables f) t there z
]

only_those : (flows : List ListedFlow) (tables : List ℕ) (t : ℕ) → is_table_among (fold with_table_of tables flows) t ≡ true → (is_table_among tables t ≡ true) ⊎ ((has_flow flows t ≡ true) × ((t == 0) ≡ false))
only_those [] tables t e = inl e
only_those (f ∷ flows) tables t e = elim (only_those flows (with_table_of tables f) t e) as (λ w. (is_table_among tables t ≡ true) ⊎ ((has_flow (f ∷ flows) t ≡ true) × ((t == 0) ≡ false))) [
  | inr later ↦ inr (or_there (f.table == t) (has_flow flows t) later.0, later.1)
  | inl so_far ↦ elim (step_only tables f t so_far) as (λ w. (is_table_among tables t ≡ true) ⊎ ((has_flow (f ∷ flows) t ≡ true) × ((t == 0) ≡ false))) [
    | inl old ↦ inl old
    | inr new ↦ inr (or_here (f.table == t) (has_flow flows t) (eq-eqb f.table t new.0), new.1)
  ]
]

-- ---- THE REST: tables of flows, so that each other table of a flow is reached

pub record IsRest (flows : List ListedFlow) (tables : List ℕ) : Type 0 where
  pub has : (t : ℕ) → is_table_among tables t ≡ true → (has_flow flows t ≡ true) × ((t == 0) ≡ false)
  pub reached : (t : ℕ) → has_flow flows t ≡ true → is_table_among tables t ≡ false → IsTableReached flows t

pub begun : (flows : List ListedFlow) → IsRest flows (later_tables flows)
begun flows = record {
  has = λ t e. elim (only_those flows [] t e) as (λ w. (has_flow flows t ≡ true) × ((t == 0) ≡ false)) [ inl old ↦ absurd cc | inr new ↦ new ];
  reached = λ t h o. by_test t h o (t == 0) refl;
}
  where
    by_test : (t : ℕ) → has_flow flows t ≡ true → is_table_among (later_tables flows) t ≡ false → (b : Bool) → (t == 0) ≡ b → IsTableReached flows t
    by_test t h o true z = subst (λ n. IsTableReached flows n) (sym (eqb-true t 0 z)) First
    by_test t h o false z = let k = all_have flows [] t h z in absurd cc

pub went_on : (flows : List ListedFlow) (tables : List ℕ) (x : ℕ) → IsRest flows tables → find (is_led_from_others flows tables) tables ≡ Some x → IsRest flows (without x tables)
went_on flows tables x r e =
    let led = led_from tables x flows (found (is_led_from_others flows tables) tables x e).1 in
    let x_reached : IsTableReached flows x = Later led.from x (r.reached led.from led.has led.other) led.leads in
    record {
      has = λ t h. r.has t (stayed x tables t h);
      reached = λ t h o. elim (removed x tables t o) as (λ w. IsTableReached flows t) [
        | inl old ↦ r.reached t h old
        | inr same ↦ subst (λ n. IsTableReached flows n) (sym same) x_reached
      ];
    }

not_among : (b : Bool) → (b ≡ true → ⊥) → b ≡ false
not_among true h = absurd (h refl)
not_among false h = refl

module _ (flows : List ListedFlow) (tables : List ℕ) (r : IsRest flows tables) (none : find (is_led_from_others flows tables) tables ≡ None) where
  pub are_others : (t : ℕ) → IsTableReached flows t → is_table_among tables t ≡ false
  are_others t First = not_among (is_table_among tables 0) (λ e. let z = (r.has 0 e).1 in cc)
  are_others t (Later from to so l) = not_among (is_table_among tables to) (λ e.
      let no = not_found (is_led_from_others flows tables) tables none to e in
      let yes = led_so tables to from flows (are_others from so) l in cc)

  pub done : (t : ℕ) → (is_table_among tables t ≡ true) ↔ ((has_flow flows t ≡ true) × ¬ (IsTableReached flows t))
  done t = (λ e. ((r.has t e).0, λ so. let o = are_others t so in cc), λ h. by_test (is_table_among tables t) refl h)
    where
      by_test : (b : Bool) → is_table_among tables t ≡ b → (has_flow flows t ≡ true) × ¬ (IsTableReached flows t) → is_table_among tables t ≡ true
      by_test true e h = e
      by_test false e h = absurd (h.1 (r.reached t h.0 e))
