-- What a group names, by tests of numbers.
use Rattle.std.proofs.Common.{◌≡◌, ℕ, Bool, true, false, not, eqb, List, [], ◌∷◌, refl, arith}
use Rattle.std.{specs.Prelude.◌&&◌, specs.Prelude.◌||◌, specs.List.list_any, specs.List.list_all, proofs.lemmas.Bool.Decides.nat_tests, proofs.lemmas.Bool.Decides.eqb_tells}
use Rattle.of_wire.specs.declared.limits.TheConstants.{OFPG_ANY}
use Rattle.of_actions.specs.{declared.action.Action.Action, declared.action.Action.TheVariants.Group as ToGroup}
use Rattle.of_groups.specs.{declared.bucket.Bucket.Bucket, declared.group.Group.Group, declared.group.GroupKind.GroupKind}
use Rattle.of_groups.specs.declared.group.GroupKind.TheVariants.{FastFailover}
use Rattle.of_groups.specs.{Buckets.sends, Buckets.any_sends, Buckets.watches, Groups.any_watches, Groups.any_named, Groups.names}

-- ---- tests

or_more : (a b c d : Bool) → (c ≡ true → a ≡ true) → (d ≡ true → b ≡ true) → (c || d) ≡ true → (a || b) ≡ true
or_more true b c d f g h = refl
or_more false b true d f g h = absurd (let e : false ≡ true = f refl in cc)
or_more false b false d f g h = g h

and_more : (a b c : Bool) → (c ≡ true → b ≡ true) → (a && c) ≡ true → (a && b) ≡ true
and_more true b c f h = f h
and_more false b c f h = absurd (cc)

pub contrary : (a b : Bool) → (b ≡ true → a ≡ true) → a ≡ false → b ≡ false
contrary a true f h = absurd (let e : a ≡ true = f refl in cc)
contrary a false f h = refl

pub any_more : {X : Type 0} (p q : X → Bool) (xs : List X) → ((x : X) → q x ≡ true → p x ≡ true) → list_any q xs ≡ true → list_any p xs ≡ true
any_more p q [] f h = h
any_more p q (x ∷ xs) f h = or_more (p x) (list_any p xs) (q x) (list_any q xs) (f x) (any_more p q xs f) h

pub all_more : {X : Type 0} (p q : X → Bool) (xs : List X) → ((x : X) → q x ≡ true → p x ≡ true) → list_all q xs ≡ true → list_all p xs ≡ true
all_more p q [] f h = refl
all_more p q (x ∷ xs) f h = both (p x) (list_all p xs) (q x) (list_all q xs) (f x) (all_more p q xs f) h
  where
    both : (a b c d : Bool) → (c ≡ true → a ≡ true) → (d ≡ true → b ≡ true) → (c && d) ≡ true → (a && b) ≡ true
    both a b true d f g h = rw (f refl) (g h)
    both a b false d f g h = absurd (cc)

-- ---- a wider test holds of what is named wherever a narrower one does

sends_more : (p q : ℕ → Bool) → ((n : ℕ) → q n ≡ true → p n ≡ true) → (a : Action) → sends q a ≡ true → sends p a ≡ true
sends_more p q f (ToGroup group) h = f group h
sends_more p q f other h = h

pub any_sends_more : (p q : ℕ → Bool) → ((n : ℕ) → q n ≡ true → p n ≡ true) → (buckets : List Bucket) → any_sends q buckets ≡ true → any_sends p buckets ≡ true
any_sends_more p q f buckets h =
    any_more (λ (b : Bucket). list_any (sends p) b.actions) (λ (b : Bucket). list_any (sends q) b.actions) buckets
    (λ b. any_more (sends p) (sends q) b.actions (sends_more p q f)) h

pub any_watches_more : (p q : ℕ → Bool) → ((n : ℕ) → q n ≡ true → p n ≡ true) → (kind : GroupKind) (buckets : List Bucket) → any_watches q kind buckets ≡ true → any_watches p kind buckets ≡ true
any_watches_more p q f FastFailover buckets h =
    any_more (watches p) (watches q) buckets (λ b. and_more (not (eqb b.watch_group OFPG_ANY)) (p b.watch_group) (q b.watch_group) (f b.watch_group)) h
any_watches_more p q f other buckets h = h

pub any_named_more : (p q : ℕ → Bool) → ((n : ℕ) → q n ≡ true → p n ≡ true) → (g : Group) → any_named q g ≡ true → any_named p g ≡ true
any_named_more p q f g h =
    or_more (any_sends p g.buckets) (any_watches p g.kind g.buckets) (any_sends q g.buckets) (any_watches q g.kind g.buckets)
    (any_sends_more p q f g.buckets) (any_watches_more p q f g.kind g.buckets) h

-- what holds of a number that is named
same_number : (p : ℕ → Bool) (m n : ℕ) → p m ≡ true → eqb n m ≡ true → p n ≡ true
same_number p m n h e = let same : n ≡ m = grind (arith, nat_tests, eqb_tells n m) in rw same h

pub named_at : (p : ℕ → Bool) (m : ℕ) (g : Group) → names m g ≡ true → p m ≡ true → any_named p g ≡ true
named_at p m g named h = any_named_more p (λ n. eqb n m) (λ n. same_number p m n h) g named

pub none_named_less : (p q : ℕ → Bool) → ((n : ℕ) → q n ≡ true → p n ≡ true) → (g : Group) → any_named p g ≡ false → any_named q g ≡ false
none_named_less p q f g h = contrary (any_named p g) (any_named q g) (any_named_more p q f g) h

-- ---- the number for which a test holds of what is named

pub or_true : (a b : Bool) → b ≡ true → (a || b) ≡ true
or_true true b h = refl
or_true false b h = h

-- an element that passes, by which another test passes too
abbrev pub Passing : {X : Type 0} → (X → Bool) → List X → Type 0
Passing {X} p xs = (x : X) × (p x ≡ true) × ((q : X → Bool) → q x ≡ true → list_any q xs ≡ true)

pub any_passing : {X : Type 0} (p : X → Bool) (xs : List X) → list_any p xs ≡ true → Passing p xs
any_passing p [] h = absurd (cc)
any_passing {X} p (x ∷ xs) h = by_test (p x) refl (any_passing p xs) h
  where
    by_test : (b : Bool) → p x ≡ b → (list_any p xs ≡ true → Passing p xs) → (b || list_any p xs) ≡ true → Passing p (x ∷ xs)
    by_test true e again t = (x, e, λ q is. rw is refl)
    by_test false e again t = let r = again t in (r.0, r.1, λ q is. or_true (q x) (list_any q xs) (r.2 q is))

sent_number : (p : ℕ → Bool) (a : Action) → sends p a ≡ true → (m : ℕ) × (sends (λ n. eqb n m) a ≡ true) × (p m ≡ true)
sent_number p (ToGroup group) h = (group, grind (arith, nat_tests, eqb_tells group group), h)
sent_number p other h = absurd (cc)

pub any_sent_number : (p : ℕ → Bool) (buckets : List Bucket) → any_sends p buckets ≡ true → (m : ℕ) × (any_sends (λ n. eqb n m) buckets ≡ true) × (p m ≡ true)
any_sent_number p buckets h =
    let b = any_passing (λ (b : Bucket). list_any (sends p) b.actions) buckets h in
    let a = any_passing (sends p) b.0.actions b.1 in
    let m = sent_number p a.0 a.1 in
    (m.0, b.2 (λ (b : Bucket). list_any (sends (λ n. eqb n m.0)) b.actions) (a.2 (sends (λ n. eqb n m.0)) m.1), m.2)

watched_number : (p : ℕ → Bool) (b : Bucket) → watches p b ≡ true → watches (λ n. eqb n b.watch_group) b ≡ true
watched_number p b h = and_more (not (eqb b.watch_group OFPG_ANY)) (eqb b.watch_group b.watch_group) (p b.watch_group) (λ e. grind (arith, nat_tests, eqb_tells b.watch_group b.watch_group)) h

and_second : (a b : Bool) → (a && b) ≡ true → b ≡ true
and_second true b h = h
and_second false b h = absurd (cc)

any_watched_number : (p : ℕ → Bool) (kind : GroupKind) (buckets : List Bucket) → any_watches p kind buckets ≡ true → (m : ℕ) × (any_watches (λ n. eqb n m) kind buckets ≡ true) × (p m ≡ true)
any_watched_number p FastFailover buckets h =
    let b = any_passing (watches p) buckets h in
    (b.0.watch_group, b.2 (watches (λ n. eqb n b.0.watch_group)) (watched_number p b.0 b.1), and_second (not (eqb b.0.watch_group OFPG_ANY)) (p b.0.watch_group) b.1)
any_watched_number p other buckets h = absurd (cc)

pub or_first : (a b : Bool) → a ≡ true → (a || b) ≡ true
or_first true b h = refl
or_first false b h = absurd (cc)

pub named_number : (p : ℕ → Bool) (g : Group) → any_named p g ≡ true → (m : ℕ) × (names m g ≡ true) × (p m ≡ true)
named_number p g h = by_sends (any_sends p g.buckets) refl h
  where
    by_sends : (b : Bool) → any_sends p g.buckets ≡ b → (b || any_watches p g.kind g.buckets) ≡ true → (m : ℕ) × (names m g ≡ true) × (p m ≡ true)
    by_sends true e t = let m = any_sent_number p g.buckets e in (m.0, or_first (any_sends (λ n. eqb n m.0) g.buckets) (any_watches (λ n. eqb n m.0) g.kind g.buckets) m.1, m.2)
    by_sends false e t = let m = any_watched_number p g.kind g.buckets t in (m.0, or_true (any_sends (λ n. eqb n m.0) g.buckets) (any_watches (λ n. eqb n m.0) g.kind g.buckets) m.1, m.2)
