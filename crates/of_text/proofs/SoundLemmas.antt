-- Groups are sound whenever they were added.
use Rattle.std.proofs.Common.{◌≡◌, ℕ, eqb, Bool, true, false, cond, List, [], ◌∷◌, ◌++◌, length, drop, get_or, Some, refl, sym, ◌∙◌, ap, subst, append_assoc, ◌<◌, ◌+◌, arith}
use Rattle.std.{specs.Prelude.not, specs.Prelude.nat_lt, specs.Prelude.◌&&◌, specs.Prelude.◌||◌, specs.List.list_all, specs.Option.option_map_or, proofs.lemmas.Bool.and_parts}
use Rattle.std.proofs.{lemmas.List.length-map, Math.Path.fun_ext}
use Rattle.of_actions.specs.Rising.{is_ascending}
use Rattle.of_groups.specs.Groups.{group_number, is_there, find_group, names, any_named}
use Rattle.of_groups.specs.{declared.group.Group.Group, Buckets.are_fit, Chains.names_next, Chains.is_chain, Faults.is_absent, Sound.is_fit_group, Sound.is_whole, Sound.AreSound}
use Rattle.of_text.specs.{declared.group.GroupText.GroupText, Groups.TextGroup, Groups.buckets_of, Groups.group_at, Groups.groups_at, Views.view_group, Views.view_groups}
use Rattle.of_text.proofs.WriteLemmas.{next_group}

above_same : (c d n : ℕ) (gs : List TextGroup) → list_all (λ (y : Group). nat_lt n (group_number y)) (groups_at c gs) ≡ list_all (λ (y : Group). nat_lt n (group_number y)) (groups_at d gs)
above_same c d n [] = refl
above_same c d n (g ∷ gs) = ap (λ (b : Bool). nat_lt n g.head.id && b) (above_same c d n gs)

rising_same : (c d : ℕ) (gs : List TextGroup) → is_ascending group_number (groups_at c gs) ≡ is_ascending group_number (groups_at d gs)
rising_same c d [] = refl
rising_same c d (g ∷ gs) = rw (above_same c d g.head.id gs, rising_same c d gs) refl

fit_same : (c d : ℕ) (gs : List TextGroup) → list_all is_fit_group (groups_at c gs) ≡ list_all is_fit_group (groups_at d gs)
fit_same c d [] = refl
fit_same c d (g ∷ gs) = ap (λ (b : Bool). is_fit_group (group_at c g) && b) (fit_same c d gs)

there_same : (c d n : ℕ) (gs : List TextGroup) → is_there n (groups_at c gs) ≡ is_there n (groups_at d gs)
there_same c d n [] = refl
there_same c d n (g ∷ gs) = ap (λ (b : Bool). eqb g.head.id n || b) (there_same c d n gs)

pub absent_same : (c d : ℕ) (gs : List TextGroup) → is_absent (groups_at c gs) ≡ is_absent (groups_at d gs)
absent_same c d gs = fun_ext (λ n. ap not (there_same c d n gs))

whole_by : (c d : ℕ) (p : ℕ → Bool) (gs : List TextGroup) → list_all (λ (g : Group). not (any_named p g)) (groups_at c gs) ≡ list_all (λ (g : Group). not (any_named p g)) (groups_at d gs)
whole_by c d p [] = refl
whole_by c d p (g ∷ gs) = ap (λ (b : Bool). not (any_named p (group_at c g)) && b) (whole_by c d p gs)

whole_same : (c d : ℕ) (gs : List TextGroup) → list_all (is_whole (groups_at c gs)) (groups_at c gs) ≡ list_all (is_whole (groups_at d gs)) (groups_at d gs)
whole_same c d gs = ap (λ (p : ℕ → Bool). list_all (λ (g : Group). not (any_named p g)) (groups_at c gs)) (absent_same c d gs) ∙ whole_by c d (is_absent (groups_at d gs)) gs

next_same : (c d n m : ℕ) (gs : List TextGroup) → names_next (groups_at c gs) n m ≡ names_next (groups_at d gs) n m
next_same c d n m [] = refl
next_same c d n m (g ∷ gs) = by_test (eqb g.head.id n) (next_same c d n m gs)
  where
    by_test : (b : Bool) → names_next (groups_at c gs) n m ≡ names_next (groups_at d gs) n m
        → option_map_or (names m) (cond b (Some (group_at c g)) (find_group n (groups_at c gs))) false ≡ option_map_or (names m) (cond b (Some (group_at d g)) (find_group n (groups_at d gs))) false
    by_test true h = refl
    by_test false h = h

chain_same : (c d n : ℕ) (behind : List ℕ) (gs : List TextGroup) → is_chain (groups_at c gs) n behind ≡ is_chain (groups_at d gs) n behind
chain_same c d n [] gs = there_same c d n gs
chain_same c d n (m ∷ behind) gs = rw (next_same c d n m gs, chain_same c d m behind gs) refl

pub sound_at : (c d : ℕ) (gs : List TextGroup) → AreSound (groups_at d gs) → AreSound (groups_at c gs)
sound_at c d gs s = record {
  rising = rising_same c d gs ∙ s.rising;
  few = omega (arith, s.few, length-map gs (group_at c), length-map gs (group_at d));
  fit = fit_same c d gs ∙ s.fit;
  whole = whole_same c d gs ∙ s.whole;
  short = λ n behind h. s.short n behind (chain_same d c n behind gs ∙ h);
}

-- ---- one by one

first_and : (a b c : Bool) → (a && b && c) ≡ true → a ≡ true
first_and true b c h = refl
first_and false b c h = absurd cc

pub fit_next : (c : ℕ) (gs : List GroupText) (i : ℕ) (d : GroupText) → i < length gs → d ≡ get_or gs i d → list_all is_fit_group (groups_at c (view_groups (drop i gs))) ≡ true
    → (are_fit (buckets_of (view_group d)) ≡ true) × (list_all is_fit_group (groups_at c (view_groups (drop (i + 1) gs))) ≡ true)
fit_next c gs i d lt is h =
    let k : list_all is_fit_group (groups_at c (view_group d ∷ view_groups (drop (i + 1) gs))) ≡ true = subst (λ (x : List TextGroup). list_all is_fit_group (groups_at c x) ≡ true) (next_group gs i d lt is) h in
    let parts = and_parts (is_fit_group (group_at c (view_group d))) (list_all is_fit_group (groups_at c (view_groups (drop (i + 1) gs)))) k in
    (first_and _ _ _ parts.0, parts.1)

pub made_next : (c : ℕ) (gs : List GroupText) (i : ℕ) (d : GroupText) (x : Group) (old new all : List Group) → i < length gs → d ≡ get_or gs i d → x ≡ group_at c (view_group d) → new ≡ old ++ x ∷ [] → old ++ groups_at c (view_groups (drop i gs)) ≡ all → new ++ groups_at c (view_groups (drop (i + 1) gs)) ≡ all
made_next c gs i d x old new all lt is e n h =
    let rest = groups_at c (view_groups (drop (i + 1) gs)) in
    ap (λ (l : List Group). l ++ rest) n
    ∙ (append_assoc old (x ∷ []) rest
    ∙ (ap (λ (y : Group). old ++ y ∷ rest) e
    ∙ (ap (λ (l : List TextGroup). old ++ groups_at c l) (sym (next_group gs i d lt is)) ∙ h)))
