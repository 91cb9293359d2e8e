-- What holds of the buckets of a group that run.
use Rattle.std.proofs.Common.{◌≡◌, ◌≢◌, ℕ, zero, suc, ◌+◌, ◌<◌, ◌≤◌, Bool, true, false, cond, eqb, ltb, List, [], ◌∷◌, length, get_or, Option, Some, None, refl, ◌∙◌, arith}
use Rattle.std.specs.Prelude.{◌&&◌, ◌||◌, nat_le, find, position, slice_get, ⊤}
use Rattle.std.specs.{List.list_any, List.list_all, List.range_with_len, List.position_or_len, Option.option_map, Option.option_to_list}
use Rattle.std.proofs.lemmas.Bool.Decides.{nat_tests}
use Rattle.of_actions.specs.{declared.action.Action.Action, Supported.are_supported}
use Rattle.of_groups.specs.{declared.bucket.Bucket.Bucket, declared.group.Group.Group, declared.group.GroupKind.GroupKind}
use Rattle.of_groups.specs.declared.group.GroupKind.TheVariants.{FastFailover}
use Rattle.of_groups.specs.{Buckets.is_fit, Buckets.are_fit, Buckets.sends, Buckets.any_sends, Groups.find_group, Groups.names, Groups.bucket_at, Chains.chain, Chains.names_next}
use Rattle.of_groups.specs.{Liveness.is_live_bucket, Liveness.is_live_group, Liveness.places_of, Liveness.chosen, Sound.is_fit_group, Sound.AreSound}
use Rattle.of_groups.proofs.{NameLemmas.or_first, ChainLemmas.there_found, ChainLemmas.both_true, ChainLaws.chain_falls, ChainLaws.chain_there, LiveLemmas.range_length, CountLemmas.place_is}

-- ---- elements at places

pub slice_at : {X : Type 0} (xs : List X) (i : ℕ) (d : X) → i < length xs → slice_get xs i ≡ Some (get_or xs i d)
slice_at [] i d lt = absurd (omega (arith, lt))
slice_at (x ∷ xs) zero d lt = refl
slice_at (x ∷ xs) (suc i) d lt = slice_at xs i d (omega (arith, lt))

pub slice_within : {X : Type 0} (xs : List X) (i : ℕ) → slice_get xs i ≢ None → i < length xs
slice_within [] i some = absurd (some refl)
slice_within (x ∷ xs) zero some = omega arith
slice_within (x ∷ xs) (suc i) some = let lt = slice_within xs i some in omega (arith, lt)

all_at : {X : Type 0} (p : X → Bool) (xs : List X) (i : ℕ) (x : X) → list_all p xs ≡ true → slice_get xs i ≡ Some x → p x ≡ true
all_at p [] i x h e = absurd (cc)
all_at p (y ∷ ys) zero x h e = let same : y ≡ x = cc in let both = both_true (p y) (list_all p ys) h in rw (← same) both.0
all_at p (y ∷ ys) (suc i) x h e = let both = both_true (p y) (list_all p ys) h in all_at p ys i x both.1 e

any_at : {X : Type 0} (p : X → Bool) (xs : List X) (i : ℕ) (x : X) → p x ≡ true → slice_get xs i ≡ Some x → list_any p xs ≡ true
any_at p [] i x h e = absurd (cc)
any_at p (y ∷ ys) zero x h e = let same : y ≡ x = cc in or_first (p y) (list_any p ys) (rw same h)
any_at p (y ∷ ys) (suc i) x h e = or_second (p y) (list_any p ys) (any_at p ys i x h e)
  where
    or_second : (a b : Bool) → b ≡ true → (a || b) ≡ true
    or_second true b e = refl
    or_second false b e = e

found_passes : (p q : Group → Bool) (groups : List Group) (g : Group) → list_all p groups ≡ true → find q groups ≡ Some g → p g ≡ true
found_passes p q [] g h e = absurd (cc)
found_passes p q (x ∷ groups) g h e =
    let both = both_true (p x) (list_all p groups) h in
    by_test (q x) both.0 e (found_passes p q groups g both.1)
  where
    by_test : (b : Bool) → p x ≡ true → cond b (Some x) (find q groups) ≡ Some g → (find q groups ≡ Some g → p g ≡ true) → p g ≡ true
    by_test true px t again = let same : x ≡ g = cc in rw (← same) px
    by_test false px t again = again t

-- ---- places of a list

abbrev pub AllBelow : ℕ → List ℕ → Type 0
AllBelow n [] = ⊤
AllBelow n (k ∷ places) = (k < n) × AllBelow n places

range_below : (n a m : ℕ) → a + m ≤ n → AllBelow n (range_with_len a m)
range_below n a zero le = tt
range_below n a (suc m) le = (omega (arith, le), range_below n (a + 1) m (omega (arith, le)))

first_below : (p : Bucket → Bool) (buckets : List Bucket) (o : Option ℕ) → position p buckets ≡ o → AllBelow (length buckets) (option_to_list o)
first_below p buckets None e = tt
first_below p buckets (Some i) e =
    let at = place_is (ltb (position_or_len p buckets) (length buckets)) (position_or_len p buckets) i e in
    let lt : ltb (position_or_len p buckets) (length buckets) ≡ true = at.0 in
    let same : position_or_len p buckets ≡ i = at.1 in
    (grind (arith, nat_tests), tt)

places_below : (port group : ℕ → Bool) (kind : GroupKind) (buckets : List Bucket) → AllBelow (length buckets) (places_of port group kind buckets)
places_below port group FastFailover buckets = first_below (is_live_bucket port group) buckets (position (is_live_bucket port group) buckets) refl
places_below port group other buckets = range_below (length buckets) 0 (length buckets) (omega arith)

at_most_one : (o : Option ℕ) → length (option_to_list o) ≤ 1
at_most_one None = omega arith
at_most_one (Some i) = omega arith

places_few : (port group : ℕ → Bool) (kind : GroupKind) (buckets : List Bucket) → length buckets ≤ 16 → length (places_of port group kind buckets) ≤ 16
places_few port group FastFailover buckets few = let l = at_most_one (position (is_live_bucket port group) buckets) in omega (arith, l)
places_few port group other buckets few = let l = range_length (length buckets) in omega (arith, l, few)

-- ---- buckets that run

-- a bucket that exists: some bytes encode its actions, and the groups to which they send begin shorter chains
pub record IsServed (groups : List Group) (n place : ℕ) : Type 0 where
  pub actions : List Action
  pub there : bucket_at groups n place ≡ Some actions
  pub served : are_supported false actions ≡ true
  pub below : (m : ℕ) → list_any (sends (λ k. eqb k m)) actions ≡ true → chain groups m < chain groups n

abbrev pub AllServed : List Group → ℕ → List ℕ → Type 0
AllServed groups n [] = ⊤
AllServed groups n (place ∷ places) = IsServed groups n place × AllServed groups n places

pub record Serves (groups : List Group) (n : ℕ) (places : List ℕ) : Type 0 where
  pub few : length places ≤ 16
  pub chained : 0 < chain groups n
  pub buckets : AllServed groups n places

module _ (groups : List Group) (sound : AreSound groups) (n : ℕ) (g : Group) (found : find_group n groups ≡ Some g) where
  fit : are_fit g.buckets ≡ true
  fit =
      let whole : is_fit_group g ≡ true = found_passes is_fit_group (λ (h : Group). eqb h.id n) groups g sound.fit found in
      let first = both_true (are_fit g.buckets && _) _ whole in
      (both_true (are_fit g.buckets) _ first.0).0

  one_served : (place : ℕ) → place < length g.buckets → (b : Bucket) → slice_get g.buckets place ≡ Some b → IsServed groups n place
  one_served place lt b at = record {
    actions = b.actions;
    there = rw (found, at) refl;
    served = all_at is_fit g.buckets place b (both_true (nat_le (length g.buckets) 16) (list_all is_fit g.buckets) fit).1 at;
    below = λ m sent.
        let sends_it : any_sends (λ k. eqb k m) g.buckets ≡ true = any_at (λ (c : Bucket). list_any (sends (λ k. eqb k m)) c.actions) g.buckets place b sent at in
        let named : names m g ≡ true = or_first (any_sends (λ k. eqb k m) g.buckets) _ sends_it in
        let next : names_next groups n m ≡ true = rw found named in
        chain_falls groups n m sound.short next;
  }

  served_at : (place : ℕ) → place < length g.buckets → (o : Option Bucket) → slice_get g.buckets place ≡ o → IsServed groups n place
  served_at place lt (Some b) at = one_served place lt b at
  served_at place lt None at = absurd (none g.buckets place lt at)
    where
      none : (xs : List Bucket) (i : ℕ) → i < length xs → slice_get xs i ≡ None → ⊥
      none [] i lt e = omega (arith, lt)
      none (x ∷ xs) zero lt e = cc
      none (x ∷ xs) (suc i) lt e = none xs i (omega (arith, lt)) e

  all_served : (places : List ℕ) → AllBelow (length g.buckets) places → AllServed groups n places
  all_served [] below = tt
  all_served (place ∷ places) below = (served_at place below.0 (slice_get g.buckets place) refl, all_served places below.1)

serves_by : (groups : List Group) (port : ℕ → Bool) (n : ℕ) (places : List ℕ) (o : Option Group) → AreSound groups → find_group n groups ≡ o
    → option_map (λ (g : Group). places_of port (is_live_group groups port) g.kind g.buckets) o ≡ Some places → Serves groups n places
serves_by groups port n places None sound found e = absurd (cc)
serves_by groups port n places (Some g) sound found e =
    let are : places_of port (is_live_group groups port) g.kind g.buckets ≡ places = cc in
    let few : nat_le (length g.buckets) 16 ≡ true = (both_true (nat_le (length g.buckets) 16) (list_all is_fit g.buckets) (fit groups sound n g found)).0 in
    rw (← are) (record {
      few = places_few port (is_live_group groups port) g.kind g.buckets (grind (arith, nat_tests));
      chained = chain_there groups n (there_found n groups ∙ rw found refl);
      buckets = all_served groups sound n g found (places_of port (is_live_group groups port) g.kind g.buckets) (places_below port (is_live_group groups port) g.kind g.buckets);
    })

-- at most 16 buckets of a group run; they exist, some bytes encode their actions, and the groups that these name begin shorter chains
pub groups_serve : (groups : List Group) (port : ℕ → Bool) (n : ℕ) (places : List ℕ) → AreSound groups → chosen groups port n ≡ Some places → Serves groups n places
groups_serve groups port n places sound e = serves_by groups port n places (find_group n groups) sound refl e

-- a bucket that exists has its place
pub bucket_within : (groups : List Group) (n place : ℕ) (g : Group) → find_group n groups ≡ Some g → bucket_at groups n place ≢ None → place < length g.buckets
bucket_within groups n place g found some = slice_within g.buckets place (λ none. some (rw (found, none) refl))
