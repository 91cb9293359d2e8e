-- Groups whose counters change.
use Rattle.std.proofs.Common.{◌≡◌, ℕ, zero, suc, ◌<◌, ◌≤◌, Bool, true, false, not, cond, eqb, ltb, List, [], ◌∷◌, length, get_or, set, Option, Some, None, refl, sym, ap, ◌∙◌, arith}
use Rattle.std.specs.{Prelude.◌||◌, Prelude.map, Prelude.position, List.list_any, List.list_all, List.position_or_len, Option.option_map, Option.option_map_or, Option.is_some}
use Rattle.std.proofs.{lemmas.Bool.Decides.nat_tests, lemmas.Bool.Decides.eqb_tells, Math.Path.fun_ext}
use Rattle.of_actions.specs.Rising.{is_ascending}
use Rattle.of_groups.specs.Buckets.{used_bucket, used_at, any_sends, watches, sends, is_badly_watched}
use Rattle.of_groups.specs.Groups.{group_number, find_group, is_there, any_watches, any_named, names, at_group}
use Rattle.of_groups.specs.{declared.bucket.Bucket.Bucket, declared.group.Group.Group, declared.group.GroupKind.GroupKind}
use Rattle.of_groups.specs.declared.group.GroupKind.TheVariants.{Indirect, FastFailover}
use Rattle.of_groups.specs.{Chains.names_next, Chains.is_chain, Faults.is_absent, Faults.is_bad_watch, Faults.is_not_one, Sound.is_fit_group, Sound.AreSound}
use Rattle.of_groups.proofs.{BucketLemmas.used_fit, BucketLemmas.used_length, Finding.place_later, Finding.any_position, PutLemmas.none_as_low}

-- ---- the group at a place is the group of a number

pub unchanged : (n : ℕ) (change : Group → Group) (groups : List Group) → is_there n groups ≡ false → groups ≡ at_group n change groups
unchanged n change [] h = refl
unchanged n change (g ∷ groups) h = by_test (eqb g.id n) h (unchanged n change groups)
  where
    by_test : (b : Bool) → (b || is_there n groups) ≡ false → (is_there n groups ≡ false → groups ≡ at_group n change groups) → g ∷ groups ≡ cond b (change g) g ∷ at_group n change groups
    by_test true t again = absurd (cc)
    by_test false t again = ap (λ (gs : List Group). g ∷ gs) (again t)

changed_at : (n : ℕ) (change : Group → Group) (groups : List Group) (d : Group) → is_ascending group_number groups ≡ true → is_there n groups ≡ true
    → set groups (position_or_len (λ (g : Group). eqb g.id n) groups) (change (get_or groups (position_or_len (λ (g : Group). eqb g.id n) groups) d)) ≡ at_group n change groups
changed_at n change [] d r there = absurd (cc)
changed_at n change (g ∷ groups) d r there = by_test (eqb g.id n) refl there (grind (arith, nat_tests)) (changed_at n change groups d (grind (arith, nat_tests)))
  where
    by_test : (b : Bool) → eqb g.id n ≡ b → (b || is_there n groups) ≡ true → list_all (λ (h : Group). ltb g.id h.id) groups ≡ true
        → (is_there n groups ≡ true → set groups (position_or_len (λ (g : Group). eqb g.id n) groups) (change (get_or groups (position_or_len (λ (g : Group). eqb g.id n) groups) d)) ≡ at_group n change groups)
        → set (g ∷ groups) (position_or_len (λ (g : Group). eqb g.id n) (g ∷ groups)) (change (get_or (g ∷ groups) (position_or_len (λ (g : Group). eqb g.id n) (g ∷ groups)) d)) ≡ cond b (change g) g ∷ at_group n change groups
    by_test true e t above again =
        let le : n ≤ g.id = grind (arith, nat_tests, eqb_tells g.id n) in
        let none : is_there n groups ≡ false = none_as_low g.id n groups le above in
        rw e (ap (λ (gs : List Group). change g ∷ gs) (unchanged n change groups none))
    by_test false e t above again =
        ap (λ (i : ℕ). set (g ∷ groups) i (change (get_or (g ∷ groups) i d))) (place_later (λ (h : Group). eqb h.id n) g groups e)
        ∙ ap (λ (gs : List Group). g ∷ gs) (again t)

pub place_is : (b : Bool) (i j : ℕ) → cond b (Some i) None ≡ Some j → (b ≡ true) × (i ≡ j)
place_is true i j e = (refl, cc)
place_is false i j e = absurd (cc)

pub changed_place : (n i : ℕ) (change : Group → Group) (groups : List Group) (g d : Group) → is_ascending group_number groups ≡ true → position (λ (h : Group). eqb h.id n) groups ≡ Some i → g ≡ change (get_or groups i d) → set groups i g ≡ at_group n change groups
changed_place n i change groups g d r at is =
    let p = place_is (ltb (position_or_len (λ (h : Group). eqb h.id n) groups) (length groups)) (position_or_len (λ (h : Group). eqb h.id n) groups) i at in
    let there : is_there n groups ≡ true = any_position (λ (h : Group). eqb h.id n) groups ∙ ap is_some at in
    rw is (ap (λ (j : ℕ). set groups j (change (get_or groups j d))) (sym p.1) ∙ changed_at n change groups d r there)

pub place_in : (n i : ℕ) (groups : List Group) → position (λ (h : Group). eqb h.id n) groups ≡ Some i → i < length groups
place_in n i groups at =
    let p = place_is (ltb (position_or_len (λ (h : Group). eqb h.id n) groups) (length groups)) (position_or_len (λ (h : Group). eqb h.id n) groups) i at in
    let lt : ltb (position_or_len (λ (h : Group). eqb h.id n) groups) (length groups) ≡ true = p.0 in
    let same : position_or_len (λ (h : Group). eqb h.id n) groups ≡ i = p.1 in
    grind (arith, nat_tests)

pub unchanged_at : (n : ℕ) (change : Group → Group) (groups : List Group) → position (λ (h : Group). eqb h.id n) groups ≡ None → groups ≡ at_group n change groups
unchanged_at n change groups at = unchanged n change groups (any_position (λ (h : Group). eqb h.id n) groups ∙ ap is_some at)

-- ---- what a change of counters keeps

pub record Keeps (g h : Group) : Type 0 where
  id : h.id ≡ g.id
  fit : is_fit_group h ≡ is_fit_group g
  named : (p : ℕ → Bool) → any_named p h ≡ any_named p g

same_keeps : (g : Group) → Keeps g g
same_keeps g = record { id = refl; fit = refl; named = λ p. refl }

module _ (f : Group → Group) (keeps : (g : Group) → Keeps g (f g)) where
  all_above : (m : ℕ) (groups : List Group) → list_all (λ (h : Group). ltb m h.id) (map f groups) ≡ list_all (λ (h : Group). ltb m h.id) groups
  all_above m [] = refl
  all_above m (g ∷ groups) = let k = keeps g in rw (k.id, all_above m groups) refl

  still_rising : (groups : List Group) → is_ascending group_number (map f groups) ≡ is_ascending group_number groups
  still_rising [] = refl
  still_rising (g ∷ groups) = let k = keeps g in rw (k.id, all_above g.id groups, still_rising groups) refl

  as_many : (groups : List Group) → length (map f groups) ≡ length groups
  as_many [] = refl
  as_many (g ∷ groups) = ap suc (as_many groups)

  still_fit : (groups : List Group) → list_all is_fit_group (map f groups) ≡ list_all is_fit_group groups
  still_fit [] = refl
  still_fit (g ∷ groups) = let k = keeps g in rw (k.fit, still_fit groups) refl

  found_changed : (n : ℕ) (groups : List Group) → find_group n (map f groups) ≡ option_map f (find_group n groups)
  found_changed n [] = refl
  found_changed n (g ∷ groups) =
      let k = keeps g in
      ap (λ (m : ℕ). cond (eqb m n) (Some (f g)) (find_group n (map f groups))) k.id
      ∙ (ap (λ (o : Option Group). cond (eqb g.id n) (Some (f g)) o) (found_changed n groups) ∙ by_test (eqb g.id n))
    where
      by_test : (b : Bool) → cond b (Some (f g)) (option_map f (find_group n groups)) ≡ option_map f (cond b (Some g) (find_group n groups))
      by_test true = refl
      by_test false = refl

  still_there : (n : ℕ) (groups : List Group) → is_there n (map f groups) ≡ is_there n groups
  still_there n [] = refl
  still_there n (g ∷ groups) = let k = keeps g in rw (k.id, still_there n groups) refl

  still_absent : (groups : List Group) → is_absent (map f groups) ≡ is_absent groups
  still_absent groups = fun_ext (λ n. ap not (still_there n groups))

  whole_all : (p : ℕ → Bool) (groups : List Group) → list_all (λ (g : Group). not (any_named p g)) (map f groups) ≡ list_all (λ (g : Group). not (any_named p g)) groups
  whole_all p [] = refl
  whole_all p (g ∷ groups) = let k = keeps g in rw (k.named p, whole_all p groups) refl

  next_same : (groups : List Group) (a b : ℕ) → names_next (map f groups) a b ≡ names_next groups a b
  next_same groups a b = ap (λ (o : Option Group). option_map_or (names b) o false) (found_changed a groups) ∙ by_found (find_group a groups)
    where
      by_found : (o : Option Group) → option_map_or (names b) (option_map f o) false ≡ option_map_or (names b) o false
      by_found None = refl
      by_found (Some g) = let k = keeps g in k.named (λ m. eqb m b)

  chain_same : (groups : List Group) (a : ℕ) (behind : List ℕ) → is_chain (map f groups) a behind ≡ is_chain groups a behind
  chain_same groups a [] = still_there a groups
  chain_same groups a (b ∷ behind) = rw (next_same groups a b, chain_same groups b behind) refl

  pub sound_map : (groups : List Group) → AreSound groups → AreSound (map f groups)
  sound_map groups s = record {
    rising = still_rising groups ∙ s.rising;
    few = let l = as_many groups in let few = s.few in omega (arith, l, few);
    fit = still_fit groups ∙ s.fit;
    whole = ap (λ (p : ℕ → Bool). list_all (λ (g : Group). not (any_named p g)) (map f groups)) (still_absent groups) ∙ (whole_all (is_absent groups) groups ∙ s.whole);
    short = λ a behind chained. s.short a behind (sym (chain_same groups a behind) ∙ chained);
  }

at_keeps : (n : ℕ) (change : Group → Group) → ((g : Group) → Keeps g (change g)) → (g : Group) → Keeps g (cond (eqb g.id n) (change g) g)
at_keeps n change keeps g = by_test (eqb g.id n)
  where
    by_test : (b : Bool) → Keeps g (cond b (change g) g)
    by_test true = keeps g
    by_test false = same_keeps g

pub sound_at : (n : ℕ) (change : Group → Group) (old new : List Group) → ((g : Group) → Keeps g (change g)) → AreSound old → new ≡ at_group n change old → AreSound new
sound_at n change old new keeps s is = rw is (sound_map (λ (g : Group). cond (eqb g.id n) (change g) g) (at_keeps n change keeps) old s)

pub keeps_counters : (g : Group) (packets bytes : ℕ) → Keeps g (record g { packets = packets; bytes = bytes })
keeps_counters g packets bytes = record { id = refl; fit = refl; named = λ p. refl }

-- ---- buckets

used_sent : (p : ℕ → Bool) (place bytes : ℕ) (buckets : List Bucket) → any_sends p (used_at place bytes buckets) ≡ any_sends p buckets
used_sent p place bytes [] = refl
used_sent p zero bytes (b ∷ buckets) = refl
used_sent p (suc place) bytes (b ∷ buckets) = ap (λ (x : Bool). list_any (sends p) b.actions || x) (used_sent p place bytes buckets)

used_watch : (p : Bucket → Bool) → ((b : Bucket) (bytes : ℕ) → p (used_bucket bytes b) ≡ p b) → (place bytes : ℕ) (buckets : List Bucket) → list_any p (used_at place bytes buckets) ≡ list_any p buckets
used_watch p same place bytes [] = refl
used_watch p same zero bytes (b ∷ buckets) = ap (λ (x : Bool). x || list_any p buckets) (same b bytes)
used_watch p same (suc place) bytes (b ∷ buckets) = ap (λ (x : Bool). p b || x) (used_watch p same place bytes buckets)

used_watched : (p : ℕ → Bool) (kind : GroupKind) (place bytes : ℕ) (buckets : List Bucket) → any_watches p kind (used_at place bytes buckets) ≡ any_watches p kind buckets
used_watched p FastFailover place bytes buckets = used_watch (watches p) (λ b n. refl) place bytes buckets
used_watched p other place bytes buckets = refl

used_bad : (kind : GroupKind) (place bytes : ℕ) (buckets : List Bucket) → is_bad_watch kind (used_at place bytes buckets) ≡ is_bad_watch kind buckets
used_bad FastFailover place bytes buckets = used_watch is_badly_watched (λ b n. refl) place bytes buckets
used_bad other place bytes buckets = refl

used_one : (kind : GroupKind) (place bytes : ℕ) (buckets : List Bucket) → is_not_one kind (used_at place bytes buckets) ≡ is_not_one kind buckets
used_one Indirect place bytes buckets = ap (λ (n : ℕ). not (eqb n 1)) (used_length place bytes buckets)
used_one other place bytes buckets = refl

pub keeps_used : (g : Group) (place bytes : ℕ) → Keeps g (record g { buckets = used_at place bytes g.buckets })
keeps_used g place bytes = record {
  id = refl;
  fit = rw (used_fit place bytes g.buckets, used_bad g.kind place bytes g.buckets, used_one g.kind place bytes g.buckets) refl;
  named = λ p. rw (used_sent p place bytes g.buckets, used_watched p g.kind place bytes g.buckets) refl;
}
