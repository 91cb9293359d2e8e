-- Groups that exist so far: of the groups in ascending order, those of shorter chains, and before the next those of chains as long.
use Rattle.std.proofs.Common.{◌≡◌, ℕ, suc, ◌<◌, ◌≤◌, eqb, ltb, Bool, true, false, cond, List, [], ◌∷◌, ◌++◌, length, Option, Some, None, refl, sym, ◌∙◌, ap, append_assoc, arith}
use Rattle.std.proofs.lemmas.Bool.{and_parts, eq-eqb, eqb-true, ne_eqb, le-ltb, lt-ltb, ltb-true, ltb-false}
use Rattle.std.{specs.Prelude.filter, specs.Prelude.nat_lt, specs.List.AllByRecursion, specs.List.list_all, specs.Option.option_map_or, proofs.lemmas.Bool.Decides.nat_tests}
use Rattle.std.proofs.{lemmas.List.append-nil, lemmas.List.map-append, lemmas.List.Elements.filter-append}
use Rattle.of_actions.specs.Rising.{is_ascending}
use Rattle.of_groups.specs.{declared.group.Group.Group, Groups.find_group, Groups.names, Groups.group_number, Groups.with_group, Chains.is_chain, Chains.names_next}
use Rattle.of_groups.proofs.ChainLemmas.{both_true, there_found}
use Rattle.of_text.specs.Groups.{TextGroup, group_at, groups_at}

-- ---- the first, or else the other

abbrev or_other : {X : Type 0} → Option X → Option X → Option X
or_other None o = o
or_other (Some x) o = Some x

pub find_both : (n : ℕ) (xs ys : List TextGroup) → find_group n (groups_at 0 (xs ++ ys)) ≡ or_other (find_group n (groups_at 0 xs)) (find_group n (groups_at 0 ys))
find_both n [] ys = refl
find_both n (x ∷ xs) ys = by_test (eqb x.head.id n) (find_both n xs ys)
  where
    by_test : (b : Bool) → find_group n (groups_at 0 (xs ++ ys)) ≡ or_other (find_group n (groups_at 0 xs)) (find_group n (groups_at 0 ys))
        → cond b (Some (group_at 0 x)) (find_group n (groups_at 0 (xs ++ ys))) ≡ or_other (cond b (Some (group_at 0 x)) (find_group n (groups_at 0 xs))) (find_group n (groups_at 0 ys))
    by_test true e = refl
    by_test false e = e

-- where a test goes by the number alone
module _ (q : ℕ → Bool) where
  find_kept : (n : ℕ) (xs : List TextGroup) → find_group n (groups_at 0 (filter (λ (g : TextGroup). q g.head.id) xs)) ≡ cond (q n) (find_group n (groups_at 0 xs)) None
  find_kept n [] = by_test (q n)
    where
      by_test : (b : Bool) → find_group n [] ≡ cond b (find_group n []) None
      by_test true = refl
      by_test false = refl
  find_kept n (x ∷ xs) = by_test (q x.head.id) (eqb x.head.id n) refl refl (find_kept n xs)
    where
      by_test : (b c : Bool) → q x.head.id ≡ b → eqb x.head.id n ≡ c → find_group n (groups_at 0 (filter (λ (g : TextGroup). q g.head.id) xs)) ≡ cond (q n) (find_group n (groups_at 0 xs)) None
          → find_group n (groups_at 0 (cond b (x ∷ filter (λ (g : TextGroup). q g.head.id) xs) (filter (λ (g : TextGroup). q g.head.id) xs))) ≡ cond (q n) (cond c (Some (group_at 0 x)) (find_group n (groups_at 0 xs))) None
      by_test true true s t e = let is : q n ≡ true = ap q (sym (eqb-true x.head.id n t)) ∙ s in rw (t, is) refl
      by_test true false s t e = rw t e
      by_test false true s t e = let is : q n ≡ false = ap q (sym (eqb-true x.head.id n t)) ∙ s in rw is (e ∙ rw is refl)
      by_test false false s t e = e

-- ---- those that are there

module _ (len : ℕ → ℕ) where
  abbrev pub upto : ℕ → TextGroup → Bool
  upto n g = nat_lt (len g.head.id) (suc n)

  abbrev pub under : ℕ → TextGroup → Bool
  under n g = nat_lt (len g.head.id) n

  -- of those before it the ones of length n too
  abbrev pub present : ℕ → List TextGroup → List TextGroup → List TextGroup
  present n before rest = filter (upto n) before ++ filter (under n) rest

  find_present : (n m : ℕ) (before rest : List TextGroup)
      → find_group m (groups_at 0 (present n before rest)) ≡ or_other (cond (nat_lt (len m) (suc n)) (find_group m (groups_at 0 before)) None) (cond (nat_lt (len m) n) (find_group m (groups_at 0 rest)) None)
  find_present n m before rest =
      find_both m (filter (upto n) before) (filter (under n) rest)
      ∙ rw (find_kept (λ k. nat_lt (len k) (suc n)) m before, find_kept (λ k. nat_lt (len k) n) m rest) refl

  -- what is found among them is found among all
  pub found_in_all : (n m : ℕ) (before rest : List TextGroup) (g : Group) → find_group m (groups_at 0 (present n before rest)) ≡ Some g → find_group m (groups_at 0 (before ++ rest)) ≡ Some g
  found_in_all n m before rest g h = by_tests (nat_lt (len m) (suc n)) (nat_lt (len m) n) refl refl (sym (find_present n m before rest) ∙ h)
    where
      from : (b c : Bool) (o p : Option Group) → (c ≡ true → b ≡ true) → or_other (cond b o None) (cond c p None) ≡ Some g → or_other o p ≡ Some g
      from true true o p f e = e
      from true false None p f e = absurd cc
      from true false (Some x) p f e = e
      from false true o p f e = absurd (let i : false ≡ true = f refl in cc)
      from false false o p f e = absurd cc

      by_tests : (b c : Bool) → nat_lt (len m) (suc n) ≡ b → nat_lt (len m) n ≡ c
          → or_other (cond (nat_lt (len m) (suc n)) (find_group m (groups_at 0 before)) None) (cond (nat_lt (len m) n) (find_group m (groups_at 0 rest)) None) ≡ Some g → find_group m (groups_at 0 (before ++ rest)) ≡ Some g
      by_tests b c s t e =
          let low : nat_lt (len m) n ≡ true → nat_lt (len m) (suc n) ≡ true = λ i. grind (arith, nat_tests, i) in
          find_both m before rest ∙ from (nat_lt (len m) (suc n)) (nat_lt (len m) n) (find_group m (groups_at 0 before)) (find_group m (groups_at 0 rest)) low e

  -- one of all whose chain is shorter is there
  pub shorter_found : (n m : ℕ) (before rest : List TextGroup) → len m < n → find_group m (groups_at 0 (present n before rest)) ≡ find_group m (groups_at 0 (before ++ rest))
  shorter_found n m before rest less =
      let a : nat_lt (len m) (suc n) ≡ true = lt-ltb (len m) (suc n) (omega (arith, less)) in
      let b : nat_lt (len m) n ≡ true = lt-ltb (len m) n less in
      find_present n m before rest ∙ (rw (a, b) refl ∙ sym (find_both m before rest))

  -- ---- from one to the next

  pub passed_over : (n : ℕ) (before rest : List TextGroup) (g : TextGroup) → eqb (len g.head.id) n ≡ false → present n before (g ∷ rest) ≡ present n (before ++ g ∷ []) rest
  passed_over n before rest g other =
      let apart : len g.head.id ≡ n → ⊥ = λ i. let same = eq-eqb (len g.head.id) n i in absurd cc in
      by_test (nat_lt (len g.head.id) n) (nat_lt (len g.head.id) (suc n)) refl refl apart
      ∙ ap (λ (x : List TextGroup). x ++ filter (under n) rest) (sym (filter-append (upto n) before (g ∷ [])))
    where
      by_test : (b c : Bool) → nat_lt (len g.head.id) n ≡ b → nat_lt (len g.head.id) (suc n) ≡ c → (len g.head.id ≡ n → ⊥)
          → filter (upto n) before ++ cond (nat_lt (len g.head.id) n) (g ∷ filter (under n) rest) (filter (under n) rest) ≡ (filter (upto n) before ++ cond (nat_lt (len g.head.id) (suc n)) (g ∷ []) []) ++ filter (under n) rest
      by_test true true s t apart = rw (s, t) (sym (append_assoc (filter (upto n) before) (g ∷ []) (filter (under n) rest)))
      by_test true false s t apart = let a : len g.head.id < n = ltb-true _ _ s in let b : suc n ≤ len g.head.id = ltb-false _ _ t in absurd (omega (arith, a, b))
      by_test false true s t apart = let a : n ≤ len g.head.id = ltb-false _ _ s in let b : len g.head.id < suc n = ltb-true _ _ t in absurd (apart (omega (arith, a, b)))
      by_test false false s t apart = rw (s, t) (ap (λ (x : List TextGroup). x ++ filter (under n) rest) (sym (append-nil (filter (upto n) before))))

  pub comes_in : (n : ℕ) (before rest : List TextGroup) (g : TextGroup) → len g.head.id ≡ n → present n (before ++ g ∷ []) rest ≡ filter (upto n) before ++ g ∷ filter (under n) rest
  comes_in n before rest g same =
      let low : nat_lt (len g.head.id) (suc n) ≡ true = lt-ltb (len g.head.id) (suc n) (omega (arith, same)) in
      ap (λ (x : List TextGroup). x ++ filter (under n) rest) (filter-append (upto n) before (g ∷ []) ∙ rw low refl)
      ∙ append_assoc (filter (upto n) before) (g ∷ []) (filter (under n) rest)

  pub not_yet : (n : ℕ) (before rest : List TextGroup) (g : TextGroup) → len g.head.id ≡ n → present n before (g ∷ rest) ≡ filter (upto n) before ++ filter (under n) rest
  not_yet n before rest g same =
      let high : nat_lt (len g.head.id) n ≡ false = le-ltb (len g.head.id) n (omega (arith, same)) in
      rw high refl

  -- it is not found before
  pub not_found : (n : ℕ) (before rest : List TextGroup) (g : TextGroup) → len g.head.id ≡ n → find_group g.head.id (groups_at 0 before) ≡ None → find_group g.head.id (groups_at 0 (present n before (g ∷ rest))) ≡ None
  not_found n before rest g same none =
      let high : nat_lt (len g.head.id) n ≡ false = le-ltb (len g.head.id) n (omega (arith, same)) in
      let low : nat_lt (len g.head.id) (suc n) ≡ true = lt-ltb (len g.head.id) (suc n) (omega (arith, same)) in
      find_present n g.head.id before (g ∷ rest) ∙ rw (low, high, none) refl

  -- ---- before the first, and after the last

  pub none_present : (gs : List TextGroup) → AllByRecursion (λ (g : TextGroup). 0 < len g.head.id) gs → present 1 [] gs ≡ []
  none_present [] h = refl
  none_present (g ∷ gs) h = let high : nat_lt (len g.head.id) 1 ≡ false = le-ltb (len g.head.id) 1 h.0 in rw high (none_present gs h.1)

  kept_all : (n : ℕ) (gs : List TextGroup) → AllByRecursion (λ (g : TextGroup). len g.head.id ≤ n) gs → filter (upto n) gs ≡ gs
  kept_all n [] h = refl
  kept_all n (g ∷ gs) h = let low : nat_lt (len g.head.id) (suc n) ≡ true = lt-ltb (len g.head.id) (suc n) (omega (arith, h.0)) in rw (low, kept_all n gs h.1) refl

  pub all_present : (n : ℕ) (gs : List TextGroup) → AllByRecursion (λ (g : TextGroup). len g.head.id ≤ n) gs → present n gs [] ≡ gs
  all_present n gs h = append-nil (filter (upto n) gs) ∙ kept_all n gs h

  pub next_present : (n : ℕ) (gs : List TextGroup) → present n gs [] ≡ present (suc n) [] gs
  next_present n gs = append-nil (filter (upto n) gs)

-- ---- numbers

-- those before it have lower numbers, and those after it higher ones
abbrev pub AreLower : TextGroup → List TextGroup → Type 0
AreLower g gs = AllByRecursion (λ (h : TextGroup). h.head.id < g.head.id) gs

abbrev pub AreHigher : TextGroup → List TextGroup → Type 0
AreHigher g gs = AllByRecursion (λ (h : TextGroup). g.head.id < h.head.id) gs

higher : (g : TextGroup) (gs : List TextGroup) → list_all (λ (h : Group). ltb g.head.id h.id) (groups_at 0 gs) ≡ true → AreHigher g gs
higher g [] h = tt
higher g (x ∷ xs) h = let parts = and_parts (ltb g.head.id x.head.id) (list_all (λ (y : Group). ltb g.head.id y.id) (groups_at 0 xs)) h in (ltb-true _ _ parts.0, higher g xs parts.1)

at_place : (p : Group → Bool) (before rest : List TextGroup) (g : TextGroup) → list_all p (groups_at 0 (before ++ g ∷ rest)) ≡ true → p (group_at 0 g) ≡ true
at_place p [] rest g h = (and_parts (p (group_at 0 g)) (list_all p (groups_at 0 rest)) h).0
at_place p (x ∷ xs) rest g h = at_place p xs rest g (and_parts (p (group_at 0 x)) (list_all p (groups_at 0 (xs ++ g ∷ rest))) h).1

pub rising_parts : (before rest : List TextGroup) (g : TextGroup) → is_ascending group_number (groups_at 0 (before ++ g ∷ rest)) ≡ true → AreLower g before × AreHigher g rest
rising_parts [] rest g h = (tt, higher g rest (and_parts (list_all (λ (y : Group). ltb g.head.id y.id) (groups_at 0 rest)) (is_ascending group_number (groups_at 0 rest)) h).0)
rising_parts (x ∷ xs) rest g h =
    let parts = and_parts (list_all (λ (y : Group). ltb x.head.id y.id) (groups_at 0 (xs ++ g ∷ rest))) (is_ascending group_number (groups_at 0 (xs ++ g ∷ rest))) h in
    let others = rising_parts xs rest g parts.1 in
    ((ltb-true _ _ (at_place (λ (y : Group). ltb x.head.id y.id) xs rest g parts.0), others.0), others.1)

pub all_kept : {X : Type 0} (P : X → Type 0) (p : X → Bool) (xs : List X) → AllByRecursion P xs → AllByRecursion P (filter p xs)
all_kept P p [] h = tt
all_kept {X} P p (x ∷ xs) h = by_test (p x) h.0 (all_kept P p xs h.1)
  where
    by_test : (b : Bool) → P x → AllByRecursion P (filter p xs) → AllByRecursion P (cond b (x ∷ filter p xs) (filter p xs))
    by_test true a k = (a, k)
    by_test false a k = k

none_lower : (g : TextGroup) (ys : List TextGroup) → AreHigher g ys → filter (λ (h : Group). ltb h.id g.head.id) (groups_at 0 ys) ≡ []
none_lower g [] h = refl
none_lower g (y ∷ ys) h = let e : ltb y.head.id g.head.id ≡ false = le-ltb _ _ (omega (arith, h.0)) in rw e (none_lower g ys h.1)

all_higher : (g : TextGroup) (ys : List TextGroup) → AreHigher g ys → filter (λ (h : Group). ltb g.head.id h.id) (groups_at 0 ys) ≡ groups_at 0 ys
all_higher g [] h = refl
all_higher g (y ∷ ys) h = let e : ltb g.head.id y.head.id ≡ true = lt-ltb _ _ h.0 in rw (e, all_higher g ys h.1) refl

low_part : (g : TextGroup) (xs ys : List TextGroup) → AreLower g xs → AreHigher g ys → filter (λ (h : Group). ltb h.id g.head.id) (groups_at 0 (xs ++ ys)) ≡ groups_at 0 xs
low_part g [] ys l h = none_lower g ys h
low_part g (x ∷ xs) ys l h = let e : ltb x.head.id g.head.id ≡ true = lt-ltb _ _ l.0 in rw (e, low_part g xs ys l.1 h) refl

high_part : (g : TextGroup) (xs ys : List TextGroup) → AreLower g xs → AreHigher g ys → filter (λ (h : Group). ltb g.head.id h.id) (groups_at 0 (xs ++ ys)) ≡ groups_at 0 ys
high_part g [] ys l h = all_higher g ys h
high_part g (x ∷ xs) ys l h = let e : ltb g.head.id x.head.id ≡ false = le-ltb _ _ (omega (arith, l.0)) in rw e (high_part g xs ys l.1 h)

-- the group stands between them
pub stands_between : (g : TextGroup) (xs ys : List TextGroup) → AreLower g xs → AreHigher g ys → with_group (group_at 0 g) (groups_at 0 (xs ++ ys)) ≡ groups_at 0 (xs ++ g ∷ ys)
stands_between g xs ys l h = rw (low_part g xs ys l h, high_part g xs ys l h) (sym (map-append (group_at 0) xs (g ∷ ys)))

pub none_as_high : (g : TextGroup) (xs : List TextGroup) → AreLower g xs → find_group g.head.id (groups_at 0 xs) ≡ None
none_as_high g [] l = refl
none_as_high g (x ∷ xs) l = let e : eqb x.head.id g.head.id ≡ false = ne_eqb _ _ (λ i. let less : x.head.id < g.head.id = l.0 in omega (arith, i, less)) in rw e (none_as_high g xs l.1)

-- ---- chains

next_on : (f : Group → Bool) (o p : Option Group) → ((g : Group) → o ≡ Some g → p ≡ Some g) → option_map_or f o false ≡ true → option_map_or f p false ≡ true
next_on f None p same h = absurd cc
next_on f (Some g) p same h = rw (same g refl) h

-- a chain among some is one among all
pub chain_among : (some all : List Group) → ((m : ℕ) (g : Group) → find_group m some ≡ Some g → find_group m all ≡ Some g) → (a : ℕ) (behind : List ℕ) → is_chain some a behind ≡ true → is_chain all a behind ≡ true
chain_among some all same a [] h = there_found a all ∙ next_on (λ (g : Group). true) (find_group a some) (find_group a all) (same a) (sym (there_found a some) ∙ h)
chain_among some all same a (b ∷ behind) h =
    let parts = both_true (names_next some a b) (is_chain some b behind) h in
    rw (next_on (names b) (find_group a some) (find_group a all) (same a) parts.0) (chain_among some all same b behind parts.1)

-- ---- how many

pub length_kept : {X : Type 0} (p : X → Bool) (xs : List X) → length (filter p xs) ≤ length xs
length_kept p [] = omega arith
length_kept p (x ∷ xs) = by_test (p x) (length_kept p xs)
  where
    by_test : (b : Bool) → length (filter p xs) ≤ length xs → length (cond b (x ∷ filter p xs) (filter p xs)) ≤ length (x ∷ xs)
    by_test true l = omega (arith, l)
    by_test false l = omega (arith, l)
