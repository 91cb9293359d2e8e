-- Rounds: from what is known of k groups after one to what is known of one more.
use Rattle.std.proofs.Common.{◌≡◌, ℕ, suc, Bool, true, false, cond, eqb, ltb, List, [], ◌∷◌, length, get_or, Some, None, refl, sym, ap, ◌∙◌, arith}
use Rattle.std.specs.{Prelude.◌||◌, Prelude.map, Prelude.position, List.list_any, List.position_or_len, Option.option_map_or}
use Rattle.std.proofs.{lemmas.Bool.Decides.nat_tests, lemmas.Bool.Decides.eqb_tells, Math.Path.fun_ext}
use Rattle.of_groups.specs.{declared.group.Group.Group, declared.chains.Round.Round, Groups.find_group, Groups.with_group, Groups.any_named, Chains.leads, Chains.is_long}
use Rattle.of_groups.{specs.Rounds.mark_at, specs.Rounds.known_of, specs.Rounds.IsRound, proofs.ChainLemmas.there_found, proofs.Finding.place_later}
use Rattle.of_groups.proofs.PutLemmas.{find_with, any_with}

shifted_bool : (n m : ℕ) (x : Bool) → cond (ltb (suc n) (suc m)) x false ≡ cond (ltb n m) x false
shifted_bool n m x = let same : ltb (suc n) (suc m) ≡ ltb n m = grind (arith, nat_tests) in rw same refl

pub mark_is : (f : Group → Bool) (groups : List Group) (n : ℕ) → mark_at groups (map f groups) n ≡ option_map_or f (find_group n groups) false
mark_is f [] n = refl
mark_is f (g ∷ groups) n = by_test (eqb g.id n) (mark_is f groups n)
  where
    by_test : (b : Bool) → mark_at groups (map f groups) n ≡ option_map_or f (find_group n groups) false → cond b (f g) (mark_at groups (map f groups) n) ≡ option_map_or f (cond b (Some g) (find_group n groups)) false
    by_test true h = refl
    by_test false h = h

-- as the code looks a mark up
marked_at : (groups : List Group) (marks : List Bool) (n : ℕ) → mark_at groups marks n ≡ cond (ltb (position_or_len (λ (g : Group). eqb g.id n) groups) (length groups)) (get_or marks (position_or_len (λ (g : Group). eqb g.id n) groups) false) false
marked_at [] marks n = refl
marked_at (g ∷ groups) [] n = either (ltb (position_or_len (λ (g : Group). eqb g.id n) (g ∷ groups)) (length (g ∷ groups)))
  where
    either : (b : Bool) → false ≡ cond b false false
    either true = refl
    either false = refl
marked_at (g ∷ groups) (m ∷ marks) n = by_test (eqb g.id n) refl (marked_at groups marks n)
  where
    by_test : (b : Bool) → eqb g.id n ≡ b → mark_at groups marks n ≡ cond (ltb (position_or_len (λ (h : Group). eqb h.id n) groups) (length groups)) (get_or marks (position_or_len (λ (h : Group). eqb h.id n) groups) false) false
        → cond b m (mark_at groups marks n) ≡ cond (ltb (position_or_len (λ (h : Group). eqb h.id n) (g ∷ groups)) (length (g ∷ groups))) (get_or (m ∷ marks) (position_or_len (λ (h : Group). eqb h.id n) (g ∷ groups)) false) false
    by_test true e ih = let some : ltb 0 (suc (length groups)) ≡ true = grind (arith, nat_tests) in rw (e, some) refl
    by_test false e ih =
        ih
        ∙ (sym (shifted_bool (position_or_len (λ (h : Group). eqb h.id n) groups) (length groups) (get_or marks (position_or_len (λ (h : Group). eqb h.id n) groups) false))
        ∙ sym (ap (λ (i : ℕ). cond (ltb i (length (g ∷ groups))) (get_or (m ∷ marks) i false) false) (place_later (λ (h : Group). eqb h.id n) g groups e)))

mark_by : (b : Bool) (i j : ℕ) (f : ℕ → Bool) → cond b (Some i) None ≡ Some j → cond b (f i) false ≡ f j
mark_by true i j f e = let same : i ≡ j = cc in rw same refl
mark_by false i j f e = absurd (cc)

unmarked_by : (b : Bool) (i : ℕ) (x : Bool) → cond b (Some i) None ≡ None → cond b x false ≡ false
unmarked_by true i x e = absurd (cc)
unmarked_by false i x e = refl

pub mark_some : (groups : List Group) (marks : List Bool) (n i : ℕ) → position (λ (g : Group). eqb g.id n) groups ≡ Some i → mark_at groups marks n ≡ get_or marks i false
mark_some groups marks n i e = marked_at groups marks n ∙ mark_by (ltb (position_or_len (λ (g : Group). eqb g.id n) groups) (length groups)) (position_or_len (λ (g : Group). eqb g.id n) groups) i (λ k. get_or marks k false) e

pub mark_none : (groups : List Group) (marks : List Bool) (n : ℕ) → position (λ (g : Group). eqb g.id n) groups ≡ None → mark_at groups marks n ≡ false
mark_none groups marks n e = marked_at groups marks n ∙ unmarked_by (ltb (position_or_len (λ (g : Group). eqb g.id n) groups) (length groups)) (position_or_len (λ (g : Group). eqb g.id n) groups) (get_or marks (position_or_len (λ (g : Group). eqb g.id n) groups) false) e

-- marks by a test are that test of the group of a number
known_is : (f : Group → Bool) (new : Group) (groups : List Group) (n : ℕ) → cond (eqb new.id n) (f new) (mark_at groups (map f groups) n) ≡ option_map_or f (find_group n (with_group new groups)) false
known_is f new groups n = rw (mark_is f groups n, find_with new n groups) (by_test (eqb new.id n))
  where
    by_test : (b : Bool) → cond b (f new) (option_map_or f (find_group n groups) false) ≡ option_map_or f (cond b (Some new) (find_group n groups)) false
    by_test true = refl
    by_test false = refl

-- what is known where the marks are by a test
known_by : (f : Group → Bool) (r : Round) (groups : List Group) (new : Group) → r.groups.now ≡ groups → r.new.now ≡ new → r.own ≡ f new → r.marks.items ≡ map f groups → (n : ℕ) → known_of r n ≡ option_map_or f (find_group n (with_group new groups)) false
known_by f r groups new gs ns own marks n = rw (gs, ns, own, marks) (known_is f new groups n)

pub first_known : (r : Round) (groups : List Group) (new : Group) → r.groups.now ≡ groups → r.new.now ≡ new → r.own ≡ true → r.marks.items ≡ map (λ (g : Group). true) groups → IsRound groups new 0 r
unfolding leads
first_known r groups new gs ns own marks = record {
  groups = gs;
  new = ns;
  known = fun_ext (λ n. known_by (λ (g : Group). true) r groups new gs ns own marks n ∙ sym (there_found n (with_group new groups)));
}

pub next_known : (was r : Round) (groups : List Group) (new : Group) (k : ℕ) → r.groups.now ≡ was.groups.now → r.new.now ≡ was.new.now → r.own ≡ any_named (known_of was) was.new.now → r.marks.items ≡ map (any_named (known_of was)) was.groups.now
    → IsRound groups new k was → IsRound groups new (suc k) r
unfolding leads
next_known was r groups new k gs ns own marks h =
    let all : r.groups.now ≡ groups = gs ∙ h.groups in
    let one : r.new.now ≡ new = ns ∙ h.new in
    let f : Group → Bool = any_named (known_of was) in
    let own_is : r.own ≡ f new = own ∙ ap f h.new in
    let marks_are : r.marks.items ≡ map f groups = marks ∙ ap (map f) h.groups in
    record {
      groups = all;
      new = one;
      known = fun_ext (λ n. known_by f r groups new all one own_is marks_are n ∙ ap (λ (p : ℕ → Bool). option_map_or (any_named p) (find_group n (with_group new groups)) false) h.known);
    }

own_known : (r : Round) → known_of r r.new.now.id ≡ r.own
own_known r = let same : eqb r.new.now.id r.new.now.id ≡ true = grind (arith, nat_tests, eqb_tells r.new.now.id r.new.now.id) in rw same refl

pub long_known : (r : Round) (groups : List Group) (new : Group) → IsRound groups new 3 r → (r.own || list_any (λ (g : Group). known_of r g.id) r.groups.now) ≡ is_long (with_group new groups)
long_known r groups new h =
    ap (λ (b : Bool). b || list_any (λ (g : Group). known_of r g.id) r.groups.now) (sym (own_known r))
    ∙ ap (λ (p : ℕ → Bool). p r.new.now.id || list_any (λ (g : Group). p g.id) r.groups.now) h.known
    ∙ rw (h.groups, h.new) (sym (any_with (leads (with_group new groups) 3) new groups))

pub long_own : (r : Round) (groups : List Group) (new : Group) → IsRound groups new 3 r → r.own ≡ true → true ≡ is_long (with_group new groups)
long_own r groups new h own = let whole = long_known r groups new h in rw own at whole

pub long_other : (r : Round) (groups : List Group) (new : Group) → IsRound groups new 3 r → r.own ≡ false → list_any (λ (g : Group). known_of r g.id) r.groups.now ≡ is_long (with_group new groups)
long_other r groups new h own = ap (λ (b : Bool). b || list_any (λ (g : Group). known_of r g.id) r.groups.now) (sym own) ∙ long_known r groups new h
