-- Marks of the groups after which so many more come.
use Rattle.std.proofs.Common.{◌≡◌, ℕ, zero, suc, Bool, true, false, cond, eqb, List, [], ◌∷◌, Option, Some, None, refl, sym, ap, ◌∙◌}
use Rattle.std.{specs.Prelude.map, specs.Option.option_map_or, proofs.lemmas.Bool.eqb-true, proofs.Math.Path.fun_ext}
use Rattle.of_groups.specs.{declared.group.Group.Group, Groups.find_group, Groups.is_there, Groups.any_named, Chains.chain, Chains.leads, Rounds.length_from, Rounds.mark_at, Rounds.marks_of}
use Rattle.of_groups.proofs.{ChainLemmas.there_found, RoundLemmas.mark_is}

found_number : (n : ℕ) (groups : List Group) (g : Group) → find_group n groups ≡ Some g → g.id ≡ n
found_number n [] g h = absurd cc
found_number n (x ∷ xs) g h = by_test (eqb x.id n) refl (found_number n xs g) h
  where
    by_test : (b : Bool) → eqb x.id n ≡ b → (find_group n xs ≡ Some g → g.id ≡ n) → cond b (Some x) (find_group n xs) ≡ Some g → g.id ≡ n
    by_test true e others k = let same : x ≡ g = cc in ap (λ (y : Group). y.id) (sym same) ∙ eqb-true x.id n e
    by_test false e others k = others k

none_leads : (groups : List Group) (k n : ℕ) → find_group n groups ≡ None → false ≡ leads groups k n
unfolding leads
none_leads groups zero n h = sym (there_found n groups ∙ rw h refl)
none_leads groups (suc k) n h = rw h refl

found_leads : (groups : List Group) (k n : ℕ) → option_map_or (λ (g : Group). leads groups k g.id) (find_group n groups) false ≡ leads groups k n
found_leads groups k n = by_found (find_group n groups) refl
  where
    by_found : (o : Option Group) → find_group n groups ≡ o → option_map_or (λ (g : Group). leads groups k g.id) o false ≡ leads groups k n
    by_found None e = none_leads groups k n e
    by_found (Some g) e = ap (leads groups k) (found_number n groups g e)

-- the marks say of each number whether so many come after it
marked_leads : (groups : List Group) (marks : List Bool) (k : ℕ) → marks ≡ marks_of groups k → mark_at groups marks ≡ leads groups k
marked_leads groups marks k h = fun_ext (λ n. ap (λ (ms : List Bool). mark_at groups ms n) h ∙ (mark_is (λ (g : Group). leads groups k g.id) groups n ∙ found_leads groups k n))

pub first_marked : (groups : List Group) → map (λ (g : Group). is_there g.id groups) groups ≡ marks_of groups 0
unfolding leads
first_marked groups = refl

pub next_marked : (groups : List Group) (before marks : List Bool) (k : ℕ) → marks ≡ map (λ (g : Group). option_map_or (any_named (mark_at groups before)) (find_group g.id groups) false) groups → before ≡ marks_of groups k → marks ≡ marks_of groups (suc k)
unfolding leads
next_marked groups before marks k h b = h ∙ ap (λ (p : ℕ → Bool). map (λ (g : Group). option_map_or (any_named p) (find_group g.id groups) false) groups) (marked_leads groups before k b)

abbrev pub length_at : List Group → List Bool → List Bool → List Bool → List Bool → ℕ → ℕ
length_at groups there one two three n = length_from (mark_at groups there n) (mark_at groups one n) (mark_at groups two n) (mark_at groups three n)

pub length_is_chain : (groups : List Group) (there one two three : List Bool) → there ≡ marks_of groups 0 → one ≡ marks_of groups 1 → two ≡ marks_of groups 2 → three ≡ marks_of groups 3 → length_at groups there one two three ≡ chain groups
unfolding chain
length_is_chain groups there one two three h0 h1 h2 h3 =
    fun_ext (λ n. rw (marked_leads groups there 0 h0, marked_leads groups one 1 h1, marked_leads groups two 2 h2, marked_leads groups three 3 h3) refl)
