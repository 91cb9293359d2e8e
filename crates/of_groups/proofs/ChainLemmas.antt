-- Chains of groups, and how far they are known to lead.
use Rattle.std.proofs.Common.{◌≡◌, ℕ, zero, suc, ◌≤◌, Bool, true, false, cond, eqb, List, [], ◌∷◌, length, Option, Some, None, refl, arith}
use Rattle.std.{specs.Prelude.◌&&◌, specs.Prelude.◌||◌, specs.List.list_any, specs.Option.option_map_or, proofs.lemmas.Bool.Decides.nat_tests, proofs.lemmas.Bool.Decides.eqb_tells}
use Rattle.of_groups.specs.Chains.{names_next, is_chain, AreShort, leads, is_long}
use Rattle.of_groups.specs.{declared.group.Group.Group, Groups.find_group, Groups.is_there, Groups.any_named, Groups.names}
use Rattle.of_groups.proofs.NameLemmas.{any_named_more, named_at, or_true}

-- ---- the group of a number

pub there_found : (n : ℕ) (groups : List Group) → is_there n groups ≡ option_map_or (λ (g : Group). true) (find_group n groups) false
there_found n [] = refl
there_found n (g ∷ groups) = by_test (eqb g.id n) (there_found n groups)
  where
    by_test : (b : Bool) → is_there n groups ≡ option_map_or (λ (h : Group). true) (find_group n groups) false → (b || is_there n groups) ≡ option_map_or (λ (h : Group). true) (cond b (Some g) (find_group n groups)) false
    by_test true h = refl
    by_test false h = h

pub any_there : (p : ℕ → Bool) (n : ℕ) (groups : List Group) → is_there n groups ≡ true → p n ≡ true → list_any (λ (g : Group). p g.id) groups ≡ true
any_there p n [] there h = there
any_there p n (g ∷ groups) there h = by_test (eqb g.id n) refl (λ t. any_there p n groups t h) there
  where
    by_test : (b : Bool) → eqb g.id n ≡ b → (is_there n groups ≡ true → list_any (λ (h : Group). p h.id) groups ≡ true) → (b || is_there n groups) ≡ true → (p g.id || list_any (λ (h : Group). p h.id) groups) ≡ true
    by_test true e again t = let same : g.id ≡ n = grind (arith, nat_tests, eqb_tells g.id n) in rw (same, h) refl
    by_test false e again t = or_true (p g.id) (list_any (λ (h : Group). p h.id) groups) (again t)

-- ---- leading

pub on_found : (p : Group → Bool) (o : Option Group) → option_map_or p o false ≡ true → option_map_or (λ (g : Group). true) o false ≡ true
on_found p None h = h
on_found p (Some g) h = refl

found_more : (p q : Group → Bool) (o : Option Group) → ((g : Group) → q g ≡ true → p g ≡ true) → option_map_or q o false ≡ true → option_map_or p o false ≡ true
found_more p q None f h = h
found_more p q (Some g) f h = f g h

pub leads_less : (groups : List Group) (k n : ℕ) → leads groups (suc k) n ≡ true → leads groups k n ≡ true
unfolding leads
leads_less groups zero n h = rw (there_found n groups) (on_found (any_named (leads groups zero)) (find_group n groups) h)
leads_less groups (suc k) n h =
    found_more (any_named (leads groups k)) (any_named (leads groups (suc k))) (find_group n groups)
    (λ g. any_named_more (leads groups k) (leads groups (suc k)) (leads_less groups k) g) h

pub both_true : (a b : Bool) → (a && b) ≡ true → (a ≡ true) × (b ≡ true)
both_true true b h = (refl, h)
both_true false b h = absurd (cc)

pub chain_leads : (groups : List Group) (n : ℕ) (behind : List ℕ) → is_chain groups n behind ≡ true → leads groups (length behind) n ≡ true
unfolding leads
chain_leads groups n [] h = h
chain_leads groups n (m ∷ behind) h =
    let both = both_true (names_next groups n m) (is_chain groups m behind) h in
    let next : leads groups (length behind) m ≡ true = chain_leads groups m behind both.1 in
    found_more (any_named (leads groups (length behind))) (names m) (find_group n groups) (λ g named. named_at (leads groups (length behind)) m g named next) both.0

-- what leads further leads as far as three
pub leads_three : (groups : List Group) (k n : ℕ) → leads groups (suc (suc (suc k))) n ≡ true → leads groups 3 n ≡ true
leads_three groups zero n h = h
leads_three groups (suc k) n h = leads_three groups k n (leads_less groups (suc (suc (suc k))) n h)

pub long_leads : (groups : List Group) (n : ℕ) (behind : List ℕ) → is_chain groups n behind ≡ true → 3 ≤ length behind → leads groups 3 n ≡ true
long_leads groups n [] h le = absurd (omega arith)
long_leads groups n (a ∷ []) h le = absurd (omega arith)
long_leads groups n (a ∷ (b ∷ [])) h le = absurd (omega arith)
long_leads groups n (a ∷ (b ∷ (c ∷ behind))) h le = leads_three groups (length behind) n (chain_leads groups n (a ∷ (b ∷ (c ∷ behind))) h)

pub leads_there : (groups : List Group) (k n : ℕ) → leads groups k n ≡ true → is_there n groups ≡ true
unfolding leads
leads_there groups zero n h = h
leads_there groups (suc k) n h = leads_there groups k n (leads_less groups k n h)

-- where no chain is seen to be long, none is
pub not_long : (groups : List Group) → is_long groups ≡ false → AreShort groups
not_long groups h n behind chained = by_length (length behind) refl
  where
    long : 3 ≤ length behind → is_long groups ≡ true
    long le =
        let leads3 = long_leads groups n behind chained le in
        any_there (leads groups 3) n groups (leads_there groups 3 n leads3) leads3

    by_length : (k : ℕ) → length behind ≡ k → length behind ≤ 2
    by_length zero e = omega arith
    by_length (suc zero) e = omega arith
    by_length (suc (suc zero)) e = omega arith
    by_length (suc (suc (suc k))) e = absurd (let l : is_long groups ≡ true = long (omega arith) in cc)
