-- Groups that do the same.
use Rattle.std.proofs.Common.{◌≡◌, ℕ, zero, suc, eqb, cond, Bool, true, false, List, [], ◌∷◌, length, map, Option, Some, None, refl, sym, ap, ◌∙◌}
use Rattle.std.specs.Prelude.{not, ◌&&◌, ◌||◌, ◌==◌, nat_lt, position, slice_get}
use Rattle.std.specs.{List.position_or_len, List.list_any, List.range_with_len, Option.option_map, Option.option_map_or, Option.option_to_list}
use Rattle.std.proofs.{Math.Path.fun_ext, lemmas.List.length-map, lemmas.Option.slice_get-map}
use Rattle.of_wire.specs.declared.limits.TheConstants.{OFPG_ANY, OFPP_ANY}
use Rattle.of_ports.specs.{declared.port.Port.Port, Ports.is_live, Ports.is_live_at, Ports.port_at}
use Rattle.of_groups.specs.Liveness.{chosen, is_live_bucket, is_live_group, is_live_kind, is_live_within, places_of}
use Rattle.of_groups.specs.{declared.bucket.Bucket.Bucket, declared.group.Group.Group, declared.group.GroupKind.GroupKind}
use Rattle.of_groups.specs.declared.group.GroupKind.TheVariants.{All, FastFailover, Indirect}
use Rattle.of_groups.specs.Groups.{bucket_at, find_group}
use Rattle.of_alike.specs.SameGroups.{BucketKey, GroupKey, SameGroups, bucket_key, group_key}
use Rattle.of_alike.{specs.SamePorts.PortKey, specs.SamePorts.SamePorts, specs.SamePorts.port_key, proofs.EmissionLemmas.same_port_at}

-- ---- the group of a number

record AreSameFirstGroups (g h : Group) (gs hs : List Group) : Type 0 where
  first : group_key g ≡ group_key h
  others : SameGroups gs hs

same_first_groups : (g h : Group) (gs hs : List Group) → SameGroups (g ∷ gs) (h ∷ hs) → AreSameFirstGroups g h gs hs
same_first_groups g h gs hs e = let k : group_key g ∷ map group_key gs ≡ group_key h ∷ map group_key hs = e in record { first = cc; others = cc }

same_group_at : (n : ℕ) (gs hs : List Group) → SameGroups gs hs → option_map group_key (find_group n gs) ≡ option_map group_key (find_group n hs)
same_group_at n [] [] e = refl
same_group_at n [] (h ∷ hs) e = let k : [] ≡ group_key h ∷ map group_key hs = e in absurd cc
same_group_at n (g ∷ gs) [] e = let k : group_key g ∷ map group_key gs ≡ [] = e in absurd cc
same_group_at n (g ∷ gs) (h ∷ hs) e =
    let k = same_first_groups g h gs hs e in
    by_test (eqb g.id n) (eqb h.id n) (ap (λ (x : GroupKey). eqb x.number n) k.first) k.first (same_group_at n gs hs k.others)
  where
    by_test : (a b : Bool) → a ≡ b → group_key g ≡ group_key h → option_map group_key (find_group n gs) ≡ option_map group_key (find_group n hs) → option_map group_key (cond a (Some g) (find_group n gs)) ≡ option_map group_key (cond b (Some h) (find_group n hs))
    by_test true true e first others = ap Some first
    by_test true false e first others = absurd cc
    by_test false true e first others = absurd cc
    by_test false false e first others = others

-- what depends on what the group does
told_by_key : {B : Type 0} (F : GroupKey → B) (G : Group → B) → ((g : Group) → G g ≡ F (group_key g)) → (d : B) (o : Option Group) → option_map_or G o d ≡ option_map_or F (option_map group_key o) d
told_by_key F G h d None = refl
told_by_key F G h d (Some g) = h g

mapped_by_key : {B : Type 0} (F : GroupKey → B) (G : Group → B) → ((g : Group) → G g ≡ F (group_key g)) → (o : Option Group) → option_map G o ≡ option_map F (option_map group_key o)
mapped_by_key F G h None = refl
mapped_by_key F G h (Some g) = ap Some (h g)

-- ---- what is live

is_live_by : (ℕ → Bool) → (ℕ → Bool) → BucketKey → Bool
is_live_by port group b = (not (b.watch_port == OFPP_ANY) && port b.watch_port) || (not (b.watch_group == OFPG_ANY) && group b.watch_group)

any_by : (port group : ℕ → Bool) (bs : List Bucket) → list_any (is_live_bucket port group) bs ≡ list_any (is_live_by port group) (map bucket_key bs)
unfolding is_live_by
any_by port group [] = refl
any_by port group (b ∷ bs) = rw (any_by port group bs) refl

front_by : (port group : ℕ → Bool) (bs : List Bucket) → position_or_len (is_live_bucket port group) bs ≡ position_or_len (is_live_by port group) (map bucket_key bs)
unfolding is_live_by
front_by port group [] = refl
front_by port group (b ∷ bs) = rw (front_by port group bs) refl

position_by : (port group : ℕ → Bool) (bs : List Bucket) → position (is_live_bucket port group) bs ≡ position (is_live_by port group) (map bucket_key bs)
position_by port group bs =
    ap (λ (n : ℕ). cond (nat_lt n (length bs)) (Some n) None) (front_by port group bs)
    ∙ ap (λ (n : ℕ). cond (nat_lt (position_or_len (is_live_by port group) (map bucket_key bs)) n) (Some (position_or_len (is_live_by port group) (map bucket_key bs))) None) (sym (length-map bs bucket_key))

kind_is_live : (ℕ → Bool) → (ℕ → Bool) → GroupKind → List BucketKey → Bool
kind_is_live port group All [] = false
kind_is_live port group All (b ∷ bs) = true
kind_is_live port group Indirect bs = true
kind_is_live port group FastFailover bs = list_any (is_live_by port group) bs

live_by_key : (port group : ℕ → Bool) (kind : GroupKind) (bs : List Bucket) → is_live_kind port group kind bs ≡ kind_is_live port group kind (map bucket_key bs)
unfolding kind_is_live
live_by_key port group All [] = refl
live_by_key port group All (b ∷ bs) = refl
live_by_key port group Indirect bs = refl
live_by_key port group FastFailover bs = any_by port group bs

same_live : (port : ℕ → Bool) (gs hs : List Group) → SameGroups gs hs → (k n : ℕ) → is_live_within gs port k n ≡ is_live_within hs port k n
unfolding is_live_within
same_live port gs hs e zero n = refl
same_live port gs hs e (suc k) n =
    told_by_key (λ x. kind_is_live port (is_live_within gs port k) x.kind x.buckets) (λ g. is_live_kind port (is_live_within gs port k) g.kind g.buckets) (λ g. live_by_key port (is_live_within gs port k) g.kind g.buckets) false (find_group n gs)
    ∙ ap (λ (o : Option GroupKey). option_map_or (λ x. kind_is_live port (is_live_within gs port k) x.kind x.buckets) o false) (same_group_at n gs hs e)
    ∙ ap (λ (live : ℕ → Bool). option_map_or (λ x. kind_is_live port live x.kind x.buckets) (option_map group_key (find_group n hs)) false) (fun_ext (λ m. same_live port gs hs e k m))
    ∙ sym (told_by_key (λ x. kind_is_live port (is_live_within hs port k) x.kind x.buckets) (λ g. is_live_kind port (is_live_within hs port k) g.kind g.buckets) (λ g. live_by_key port (is_live_within hs port k) g.kind g.buckets) false (find_group n hs))

-- ---- the ports

live_port : (n : ℕ) (p q : Option Port) → option_map port_key p ≡ option_map port_key q → option_map_or is_live p false ≡ option_map_or is_live q false
live_port n None None e = refl
live_port n None (Some y) e = absurd cc
live_port n (Some x) None e = absurd cc
live_port n (Some x) (Some y) e =
    let h : Some (port_key x) ≡ Some (port_key y) = e in
    let k : port_key x ≡ port_key y = cc in
    ap (λ (k : PortKey). k.live) k

same_live_ports : (ps qs : List Port) → SamePorts ps qs → is_live_at ps ≡ is_live_at qs
same_live_ports ps qs e = fun_ext (λ n. live_port n (port_at ps n) (port_at qs n) (same_port_at n ps qs e))

-- ---- the buckets that run

places_by : (ℕ → Bool) → (ℕ → Bool) → GroupKind → List BucketKey → List ℕ
places_by port group FastFailover bs = option_to_list (position (is_live_by port group) bs)
places_by port group other bs = range_with_len 0 (length bs)

places_by_key : (port group : ℕ → Bool) (kind : GroupKind) (bs : List Bucket) → places_of port group kind bs ≡ places_by port group kind (map bucket_key bs)
unfolding places_by
places_by_key port group FastFailover bs = ap option_to_list (position_by port group bs)
places_by_key port group other bs = ap (range_with_len 0) (sym (length-map bs bucket_key))

pub same_chosen : (ps qs : List Port) (gs hs : List Group) → SamePorts ps qs → SameGroups gs hs → (n : ℕ) → chosen gs (is_live_at ps) n ≡ chosen hs (is_live_at qs) n
same_chosen ps qs gs hs ports e n =
    let port = is_live_at ps in
    mapped_by_key (λ x. places_by port (is_live_group gs port) x.kind x.buckets) (λ g. places_of port (is_live_group gs port) g.kind g.buckets) (λ g. places_by_key port (is_live_group gs port) g.kind g.buckets) (find_group n gs)
    ∙ ap (λ (o : Option GroupKey). option_map (λ x. places_by port (is_live_group gs port) x.kind x.buckets) o) (same_group_at n gs hs e)
    ∙ ap (λ (live : ℕ → Bool). option_map (λ x. places_by port live x.kind x.buckets) (option_map group_key (find_group n hs))) (fun_ext (λ m. same_live port gs hs e 3 m))
    ∙ sym (mapped_by_key (λ x. places_by port (is_live_group hs port) x.kind x.buckets) (λ g. places_of port (is_live_group hs port) g.kind g.buckets) (λ g. places_by_key port (is_live_group hs port) g.kind g.buckets) (find_group n hs))
    ∙ ap (λ (live : ℕ → Bool). chosen hs live n) (same_live_ports ps qs ports)

actions_by_key : (place : ℕ) (bs : List Bucket) → option_map (λ b. b.actions) (slice_get bs place) ≡ option_map (λ k. k.actions) (slice_get (map bucket_key bs) place)
actions_by_key place bs = by_found (slice_get bs place) ∙ ap (λ (o : Option BucketKey). option_map (λ k. k.actions) o) (sym (slice_get-map bucket_key bs place))
  where
    by_found : (o : Option Bucket) → option_map (λ b. b.actions) o ≡ option_map (λ k. k.actions) (option_map bucket_key o)
    by_found None = refl
    by_found (Some b) = refl

pub same_bucket : (gs hs : List Group) → SameGroups gs hs → (n place : ℕ) → bucket_at gs n place ≡ bucket_at hs n place
same_bucket gs hs e n place =
    told_by_key (λ x. option_map (λ k. k.actions) (slice_get x.buckets place)) (λ g. option_map (λ b. b.actions) (slice_get g.buckets place)) (λ g. actions_by_key place g.buckets) None (find_group n gs)
    ∙ ap (λ (o : Option GroupKey). option_map_or (λ x. option_map (λ k. k.actions) (slice_get x.buckets place)) o None) (same_group_at n gs hs e)
    ∙ sym (told_by_key (λ x. option_map (λ k. k.actions) (slice_get x.buckets place)) (λ g. option_map (λ b. b.actions) (slice_get g.buckets place)) (λ g. actions_by_key place g.buckets) None (find_group n hs))
