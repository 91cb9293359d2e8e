-- The invariants of groups are kept.
use Rattle.std.proofs.Common.{◌≡◌, ℕ, ◌≤◌, ◌<◌, Bool, true, false, not, cond, eqb, ltb, List, [], ◌∷◌, length, Option, Some, None, refl, sym, ap, ◌∙◌, arith}
use Rattle.std.specs.Prelude.{◌&&◌, ◌||◌, ◌+◌, nat_le, Result, Ok, Err, OnOk, OnErr}
use Rattle.std.{specs.List.list_any, specs.List.list_all, specs.Option.option_map_or, proofs.lemmas.List.length-set, proofs.lemmas.List.Edits.length-insert}
use Rattle.std.proofs.{lemmas.Bool.Decides.nat_tests, lemmas.Bool.Decides.eqb_tells, Math.Path.fun_ext}
use Rattle.of_actions.specs.Rising.{is_ascending}
use Rattle.of_action_set.proofs.Ranked.{below, rising_put, all_put, rising-filter, all-filter, length-filter_le}
use Rattle.of_wire.specs.Numbered.{without}
use Rattle.of_groups.specs.declared.group_fault.GroupFault.TheVariants.{BadWatch, NotOneBucket, Exists, Full, Unknown, AbsentGroup, AbsentWatch, LongChain}
use Rattle.of_groups.specs.Groups.{group_number, find_group, is_there, any_watches, any_named, names, with_group}
use Rattle.of_groups.specs.Faults.{is_absent, is_bad_watch, is_not_one, naming_fault, add_fault, modify_fault}
use Rattle.of_groups.specs.{declared.group.Group.Group, declared.group_fault.GroupFault.GroupFault, Buckets.are_fit, Buckets.any_sends, Chains.names_next, Chains.is_chain, Chains.is_long}
use Rattle.of_groups.specs.{Rounds.absent_with, Sound.is_fit_group, Sound.is_whole, Sound.AreSound}
use Rattle.of_groups.proofs.{NameLemmas.all_more, NameLemmas.none_named_less, NameLemmas.named_at, NameLemmas.named_number, ChainLemmas.not_long, ChainLemmas.both_true, ChainLemmas.there_found}
use Rattle.of_groups.proofs.PutLemmas.{there_with, inserted, replaced}

-- ---- none applied

pub record Named (g : Group) (after : List Group) : Type 0 where
  sent : any_sends (is_absent after) g.buckets ≡ false
  watched : any_watches (is_absent after) g.kind g.buckets ≡ false
  long : is_long after ≡ false

chosen_none : {F : Type 0} (test : Bool) (f : F) (rest : Option F) → cond test (Some f) rest ≡ None → (test ≡ false) × (rest ≡ None)
chosen_none true f rest h = absurd (cc)
chosen_none false f rest h = (refl, h)

pub named_well : (g : Group) (after : List Group) → naming_fault g after ≡ None → Named g after
named_well g after h =
    let a = chosen_none (any_sends (is_absent after) g.buckets) AbsentGroup _ h in
    let b = chosen_none (any_watches (is_absent after) g.kind g.buckets) AbsentWatch _ a.1 in
    let c = chosen_none (is_long after) LongChain _ b.1 in
    record { sent = a.0; watched = b.0; long = c.0 }

pub record Allowed (g : Group) (groups : List Group) : Type 0 where
  watch : is_bad_watch g.kind g.buckets ≡ false
  one : is_not_one g.kind g.buckets ≡ false
  names : naming_fault g (with_group g groups) ≡ None

pub record Addable (g : Group) (groups : List Group) : Type 0 where
  allowed : Allowed g groups
  new : is_there g.id groups ≡ false
  room : length groups < 256

pub may_add : (g : Group) (groups : List Group) → add_fault g groups ≡ None → Addable g groups
may_add g groups h =
    let a = chosen_none (is_bad_watch g.kind g.buckets) BadWatch _ h in
    let b = chosen_none (is_not_one g.kind g.buckets) NotOneBucket _ a.1 in
    let c = chosen_none (is_there g.id groups) Exists _ b.1 in
    let d = chosen_none (nat_le 256 (length groups)) Full _ c.1 in
    record { allowed = record { watch = a.0; one = b.0; names = d.1 }; new = c.0; room = let full : nat_le 256 (length groups) ≡ false = d.0 in grind (arith, nat_tests) }

pub record Changeable (g : Group) (groups : List Group) : Type 0 where
  allowed : Allowed g groups
  there : is_there g.id groups ≡ true

not_not : (b : Bool) → not b ≡ false → b ≡ true
not_not true h = refl
not_not false h = absurd (cc)

pub may_modify : (g : Group) (groups : List Group) → modify_fault g groups ≡ None → Changeable g groups
may_modify g groups h =
    let a = chosen_none (is_bad_watch g.kind g.buckets) BadWatch _ h in
    let b = chosen_none (is_not_one g.kind g.buckets) NotOneBucket _ a.1 in
    let c = chosen_none (is_absent groups g.id) Unknown _ b.1 in
    record { allowed = record { watch = a.0; one = b.0; names = c.1 }; there = not_not (is_there g.id groups) c.0 }

-- ---- a group that is inserted

neither : (a b : Bool) → a ≡ false → b ≡ false → (a || b) ≡ false
neither a b e f = rw (e, f) refl

absent_before : (g : Group) (groups : List Group) (n : ℕ) → is_absent (with_group g groups) n ≡ true → is_absent groups n ≡ true
absent_before g groups n h =
    let split : not (eqb g.id n || is_there n groups) ≡ true = rw (there_with g n groups) at h in
    by_test (eqb g.id n) split
  where
    by_test : (b : Bool) → not (b || is_there n groups) ≡ true → not (is_there n groups) ≡ true
    by_test true t = absurd (cc)
    by_test false t = t

none_true : (b : Bool) → b ≡ false → not b ≡ true
none_true b e = rw e refl

none_false : (b : Bool) → not b ≡ true → b ≡ false
none_false true e = absurd (cc)
none_false false e = refl

still_whole : (g : Group) (groups : List Group) (h : Group) → is_whole groups h ≡ true → is_whole (with_group g groups) h ≡ true
still_whole g groups h was =
    none_true (any_named (is_absent (with_group g groups)) h)
    (none_named_less (is_absent groups) (is_absent (with_group g groups)) (absent_before g groups) h (none_false (any_named (is_absent groups) h) was))

fits : (g : Group) → are_fit g.buckets ≡ true → is_bad_watch g.kind g.buckets ≡ false → is_not_one g.kind g.buckets ≡ false → is_fit_group g ≡ true
fits g f w o = rw (f, w, o) refl

pub sound_with : (g : Group) (groups : List Group) → AreSound groups → are_fit g.buckets ≡ true → Allowed g groups → length (with_group g groups) ≤ 256 → AreSound (with_group g groups)
sound_with g groups s fit a few =
    let after : List Group = with_group g groups in
    let n = named_well g after a.names in
    record {
      rising = rising_put group_number g groups s.rising;
      few = few;
      fit = all_put group_number is_fit_group g groups (fits g fit a.watch a.one) s.fit;
      whole = all_put group_number (is_whole after) g groups
          (none_true (any_named (is_absent after) g) (neither (any_sends (is_absent after) g.buckets) (any_watches (is_absent after) g.kind g.buckets) n.sent n.watched))
          (all_more (is_whole after) (is_whole groups) groups (still_whole g groups) s.whole);
      short = not_long after n.long;
    }

-- ---- a group that is deleted

none_either : (m : ℕ) (b : Bool) → find_group m [] ≡ cond b None (find_group m [])
none_either m true = refl
none_either m false = refl

find_without : (n m : ℕ) (groups : List Group) → find_group m (without group_number n groups) ≡ cond (eqb m n) None (find_group m groups)
find_without n m [] = none_either m (eqb m n)
find_without n m (g ∷ groups) = by_tests (eqb g.id n) (eqb g.id m) (eqb m n) refl refl refl (find_without n m groups)
  where
    by_tests : (a b c : Bool) → eqb g.id n ≡ a → eqb g.id m ≡ b → eqb m n ≡ c → find_group m (without group_number n groups) ≡ cond (eqb m n) None (find_group m groups)
        → find_group m (without group_number n (g ∷ groups)) ≡ cond (eqb m n) None (find_group m (g ∷ groups))
    by_tests true true true ea eb ec h = rw (ea, eb, ec) (rw ec at h)
    by_tests true true false ea eb ec h = absurd (grind (arith, nat_tests, eqb_tells g.id n, eqb_tells g.id m, eqb_tells m n))
    by_tests true false true ea eb ec h = absurd (grind (arith, nat_tests, eqb_tells g.id n, eqb_tells g.id m, eqb_tells m n))
    by_tests true false false ea eb ec h = rw (ea, eb, ec) (rw ec at h)
    by_tests false true true ea eb ec h = absurd (grind (arith, nat_tests, eqb_tells g.id n, eqb_tells g.id m, eqb_tells m n))
    by_tests false true false ea eb ec h = rw (ea, eb, ec) refl
    by_tests false false true ea eb ec h = rw (ea, eb, ec) (rw ec at h)
    by_tests false false false ea eb ec h = rw (ea, eb, ec) (rw ec at h)

there_without : (n m : ℕ) (groups : List Group) → eqb m n ≡ false → is_there m (without group_number n groups) ≡ is_there m groups
there_without n m groups e =
    there_found m (without group_number n groups)
    ∙ rw (find_without n m groups, e) (sym (there_found m groups))

next_before : (n a b : ℕ) (groups : List Group) → names_next (without group_number n groups) a b ≡ true → names_next groups a b ≡ true
next_before n a b groups h =
    let split : option_map_or (names b) (cond (eqb a n) None (find_group a groups)) false ≡ true = rw (find_without n a groups) at h in
    by_test (eqb a n) split
  where
    by_test : (c : Bool) → option_map_or (names b) (cond c None (find_group a groups)) false ≡ true → option_map_or (names b) (find_group a groups) false ≡ true
    by_test true t = absurd (cc)
    by_test false t = t

there_before : (n m : ℕ) (groups : List Group) → is_there m (without group_number n groups) ≡ true → is_there m groups ≡ true
there_before n m groups h = by_test (eqb m n) refl
  where
    by_test : (c : Bool) → eqb m n ≡ c → is_there m groups ≡ true
    by_test false e = sym (there_without n m groups e) ∙ h
    by_test true e =
        let gone : is_there m (without group_number n groups) ≡ false = there_found m (without group_number n groups) ∙ rw (find_without n m groups, e) refl in
        absurd (cc)

chain_before : (n a : ℕ) (behind : List ℕ) (groups : List Group) → is_chain (without group_number n groups) a behind ≡ true → is_chain groups a behind ≡ true
chain_before n a [] groups h = there_before n a groups h
chain_before n a (b ∷ behind) groups h =
    let both = both_true (names_next (without group_number n groups) a b) (is_chain (without group_number n groups) b behind) h in
    rw (next_before n a b groups both.0, chain_before n b behind groups both.1) refl

whole_without : (n : ℕ) (groups : List Group) (h : Group) → (is_whole groups h && not (names n h)) ≡ true → is_whole (without group_number n groups) h ≡ true
whole_without n groups h was =
    let both = both_true (is_whole groups h) (not (names n h)) was in
    let whole : any_named (is_absent groups) h ≡ false = none_false (any_named (is_absent groups) h) both.0 in
    let unnamed : names n h ≡ false = none_false (names n h) both.1 in
    by_test (any_named (is_absent (without group_number n groups)) h) refl whole unnamed
  where
    by_number : (m : ℕ) → names m h ≡ true → is_absent (without group_number n groups) m ≡ true → any_named (is_absent groups) h ≡ false → names n h ≡ false → (c : Bool) → eqb m n ≡ c → ⊥
    by_number m named absent whole unnamed true e =
        let same : m ≡ n = grind (arith, nat_tests, eqb_tells m n) in
        let is_named : names n h ≡ true = rw same at named in
        cc
    by_number m named absent whole unnamed false e =
        let gone : is_absent groups m ≡ true = rw (there_without n m groups e) at absent in
        let lacks : any_named (is_absent groups) h ≡ true = named_at (is_absent groups) m h named gone in
        cc

    by_test : (b : Bool) → any_named (is_absent (without group_number n groups)) h ≡ b → any_named (is_absent groups) h ≡ false → names n h ≡ false → not b ≡ true
    by_test false e whole unnamed = refl
    by_test true e whole unnamed =
        let m = named_number (is_absent (without group_number n groups)) h e in
        absurd (by_number m.0 m.1 m.2 whole unnamed (eqb m.0 n) refl)

all_and : {X : Type 0} (p q : X → Bool) (xs : List X) → list_all p xs ≡ true → list_any q xs ≡ false → list_all (λ x. p x && not (q x)) xs ≡ true
all_and p q [] h i = refl
all_and p q (x ∷ xs) h i = grind (arith, all_and p q xs)

pub sound_without : (n : ℕ) (groups : List Group) → AreSound groups → list_any (names n) groups ≡ false → AreSound (without group_number n groups)
sound_without n groups s unnamed =
    let stays : Group → Bool = λ (h : Group). not (eqb h.id n) in
    record {
      rising = rising-filter group_number stays groups s.rising;
      few = let l = length-filter_le stays groups in let f = s.few in omega (arith, l, f);
      fit = all-filter is_fit_group stays groups s.fit;
      whole = all-filter (is_whole (without group_number n groups)) stays groups
          (all_more (is_whole (without group_number n groups)) (λ (h : Group). is_whole groups h && not (names n h)) groups (whole_without n groups)
          (all_and (is_whole groups) (names n) groups s.whole unnamed));
      short = λ a behind chained. s.short a behind (chain_before n a behind groups chained);
    }

pub sound_none : AreSound []
sound_none = record { rising = refl; few = omega arith; fit = refl; whole = refl; short = λ a behind chained. absurd (none a behind chained) }
  where
    none : (a : ℕ) (behind : List ℕ) → is_chain [] a behind ≡ true → ⊥
    none a [] h = cc
    none a (b ∷ behind) h = cc

-- ---- what is known of names

absent_is : (g : Group) (groups : List Group) → absent_with g.id groups ≡ is_absent (with_group g groups)
absent_is g groups = fun_ext (λ n. sym (rw (there_with g n groups) (neither_is (eqb g.id n) (is_there n groups))))
  where
    neither_is : (a b : Bool) → not (a || b) ≡ (not a && not b)
    neither_is true b = refl
    neither_is false b = refl

pub naming_sent : (g : Group) (groups : List Group) → any_sends (absent_with g.id groups) g.buckets ≡ true → naming_fault g (with_group g groups) ≡ Some AbsentGroup
naming_sent g groups s =
    let sent : any_sends (is_absent (with_group g groups)) g.buckets ≡ true = rw (absent_is g groups) at s in
    rw sent refl

pub naming_watched : (g : Group) (groups : List Group) → any_sends (absent_with g.id groups) g.buckets ≡ false → any_watches (absent_with g.id groups) g.kind g.buckets ≡ true → naming_fault g (with_group g groups) ≡ Some AbsentWatch
naming_watched g groups s w =
    let sent : any_sends (is_absent (with_group g groups)) g.buckets ≡ false = rw (absent_is g groups) at s in
    let watched : any_watches (is_absent (with_group g groups)) g.kind g.buckets ≡ true = rw (absent_is g groups) at w in
    rw (sent, watched) refl

pub naming_long : (g : Group) (groups : List Group) → any_sends (absent_with g.id groups) g.buckets ≡ false → any_watches (absent_with g.id groups) g.kind g.buckets ≡ false → is_long (with_group g groups) ≡ true → naming_fault g (with_group g groups) ≡ Some LongChain
naming_long g groups s w l =
    let sent : any_sends (is_absent (with_group g groups)) g.buckets ≡ false = rw (absent_is g groups) at s in
    let watched : any_watches (is_absent (with_group g groups)) g.kind g.buckets ≡ false = rw (absent_is g groups) at w in
    rw (sent, watched, l) refl

pub naming_none : (g : Group) (groups : List Group) → any_sends (absent_with g.id groups) g.buckets ≡ false → any_watches (absent_with g.id groups) g.kind g.buckets ≡ false → is_long (with_group g groups) ≡ false → naming_fault g (with_group g groups) ≡ None
naming_none g groups s w l =
    let sent : any_sends (is_absent (with_group g groups)) g.buckets ≡ false = rw (absent_is g groups) at s in
    let watched : any_watches (is_absent (with_group g groups)) g.kind g.buckets ≡ false = rw (absent_is g groups) at w in
    rw (sent, watched, l) refl

-- ---- as the calls leave them

pub same_add : (g h : Group) (groups others : List Group) (told : Option GroupFault) → g ≡ h → groups ≡ others → told ≡ add_fault g groups → told ≡ add_fault h others
same_add g h groups others told e f is = is ∙ (ap (λ (x : Group). add_fault x groups) e ∙ ap (add_fault h) f)

pub same_modify : (g h : Group) (groups others : List Group) (told : Option GroupFault) → g ≡ h → groups ≡ others → told ≡ modify_fault g groups → told ≡ modify_fault h others
same_modify g h groups others told e f is = is ∙ (ap (λ (x : Group). modify_fault x groups) e ∙ ap (modify_fault h) f)

pub same_with : (g h : Group) (groups others : List Group) (new : List Group) → g ≡ h → groups ≡ others → new ≡ with_group g groups → new ≡ with_group h others
same_with g h groups others new e f is = is ∙ (ap (λ (x : Group). with_group x groups) e ∙ ap (with_group h) f)

one_longer : (g : Group) (groups : List Group) → is_ascending group_number groups ≡ true → is_there g.id groups ≡ false → length (with_group g groups) ≡ length groups + 1
one_longer g groups r new =
    let le : length (below group_number g.id groups) ≤ length groups = length-filter_le (λ (h : Group). ltb h.id g.id) groups in
    sym (ap length (inserted g groups r new)) ∙ length-insert groups (length (below group_number g.id groups)) g le

as_long : (g : Group) (groups : List Group) → is_ascending group_number groups ≡ true → is_there g.id groups ≡ true → length (with_group g groups) ≡ length groups
as_long g groups r there = sym (ap length (replaced g groups r there)) ∙ length-set groups (length (below group_number g.id groups)) g

pub sound_added : {A E : Type 0} (r : Result A E) (g : Group) (old new : List Group) → AreSound old → are_fit g.buckets ≡ true → add_fault g old ≡ None → OnOk r (new ≡ with_group g old) → OnErr r (new ≡ old) → AreSound new
sound_added (Ok x) g old new s fit none ok err =
    let a = may_add g old none in
    let long = one_longer g old s.rising a.new in
    let room = a.room in
    rw ok (sound_with g old s fit a.allowed (omega (arith, long, room)))
sound_added (Err e) g old new s fit none ok err = rw err s

pub sound_modified : (g : Group) (old new : List Group) → AreSound old → are_fit g.buckets ≡ true → modify_fault g old ≡ None → new ≡ with_group g old → AreSound new
sound_modified g old new s fit none is =
    let a = may_modify g old none in
    let long = as_long g old s.rising a.there in
    let few = s.few in
    rw is (sound_with g old s fit a.allowed (omega (arith, long, few)))
