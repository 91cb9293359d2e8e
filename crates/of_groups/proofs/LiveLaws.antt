-- Liveness by kind: so many groups of a chain are enough.
use Rattle.std.proofs.Common.{◌≡◌, ℕ, zero, suc, Bool, true, false, not, eqb, List, [], ◌∷◌, Option, Some, None, refl, sym, ap, ◌∙◌, arith}
use Rattle.std.specs.{Prelude.◌&&◌, Prelude.◌||◌, List.list_any, Option.option_map_or}
use Rattle.of_wire.specs.declared.limits.TheConstants.{OFPG_ANY, OFPP_ANY}
use Rattle.of_groups.specs.{declared.bucket.Bucket.Bucket, declared.group.Group.Group, declared.group.GroupKind.GroupKind}
use Rattle.of_groups.specs.declared.group.GroupKind.TheVariants.{All, Indirect, FastFailover}
use Rattle.of_groups.specs.{Buckets.watches, Buckets.any_sends, Groups.find_group, Groups.any_watches, Groups.any_named, Chains.AreShort, Chains.leads}
use Rattle.of_groups.{specs.Liveness.is_live_bucket, specs.Liveness.is_live_kind, specs.Liveness.is_live_within, specs.Liveness.is_live_group, proofs.ChainLemmas.there_found}
use Rattle.of_groups.proofs.ChainLaws.{led_chain}

both_false : (a b : Bool) → (a || b) ≡ false → (a ≡ false) × (b ≡ false)
both_false true b h = absurd (cc)
both_false false b h = (refl, h)

-- two accounts of what is live that agree on what is watched
module _ (port : ℕ → Bool) (q one other : ℕ → Bool) (agree : (m : ℕ) → q m ≡ false → one m ≡ other m) where
  watched_by : (is_none : Bool) (p : Bool) (m : ℕ) → (not is_none && q m) ≡ false → (p || (not is_none && one m)) ≡ (p || (not is_none && other m))
  watched_by true p m h = refl
  watched_by false p m h = ap (λ (x : Bool). p || x) (agree m h)

  bucket_same : (b : Bucket) → watches q b ≡ false → is_live_bucket port one b ≡ is_live_bucket port other b
  bucket_same b h = watched_by (eqb b.watch_group OFPG_ANY) (not (eqb b.watch_port OFPP_ANY) && port b.watch_port) b.watch_group h

  any_same : (buckets : List Bucket) → list_any (watches q) buckets ≡ false → list_any (is_live_bucket port one) buckets ≡ list_any (is_live_bucket port other) buckets
  any_same [] h = refl
  any_same (b ∷ buckets) h =
      let both = both_false (watches q b) (list_any (watches q) buckets) h in
      rw (bucket_same b both.0, any_same buckets both.1) refl

  pub kind_same : (kind : GroupKind) (buckets : List Bucket) → any_watches q kind buckets ≡ false → is_live_kind port one kind buckets ≡ is_live_kind port other kind buckets
  kind_same All [] h = refl
  kind_same All (b ∷ buckets) h = refl
  kind_same Indirect buckets h = refl
  kind_same FastFailover buckets h = any_same buckets h

-- where a chain has no more groups, no more need to be checked
within_more : (groups : List Group) (port : ℕ → Bool) (k n : ℕ) → leads groups k n ≡ false → is_live_within groups port k n ≡ is_live_within groups port (suc k) n
unfolding leads is_live_within
within_more groups port zero n h = by_found (find_group n groups) (sym (there_found n groups) ∙ h)
  where
    by_found : (o : Option Group) → option_map_or (λ (g : Group). true) o false ≡ false → false ≡ option_map_or (λ (g : Group). is_live_kind port (is_live_within groups port zero) g.kind g.buckets) o false
    by_found None e = refl
    by_found (Some g) e = absurd (cc)
within_more groups port (suc k) n h = by_found (find_group n groups) h (within_more groups port k)
  where
    by_found : (o : Option Group) → option_map_or (any_named (leads groups k)) o false ≡ false → ((m : ℕ) → leads groups k m ≡ false → is_live_within groups port k m ≡ is_live_within groups port (suc k) m)
        → option_map_or (λ (g : Group). is_live_kind port (is_live_within groups port k) g.kind g.buckets) o false ≡ option_map_or (λ (g : Group). is_live_kind port (is_live_within groups port (suc k)) g.kind g.buckets) o false
    by_found None e again = refl
    by_found (Some g) e again =
        let both = both_false (any_sends (leads groups k) g.buckets) (any_watches (leads groups k) g.kind g.buckets) e in
        kind_same port (leads groups k) (is_live_within groups port k) (is_live_within groups port (suc k)) again g.kind g.buckets both.1

never_three : (groups : List Group) (n : ℕ) → AreShort groups → leads groups 3 n ≡ false
never_three groups n short = by_test (leads groups 3 n) refl
  where
    by_test : (b : Bool) → leads groups 3 n ≡ b → b ≡ false
    by_test false e = refl
    by_test true e = let b = led_chain groups 3 n e in let few = short n b.0 b.1 in absurd (omega (arith, few, b.2))

pub live_by_kind : (groups : List Group) (port : ℕ → Bool) (n : ℕ) (g : Group) → AreShort groups → find_group n groups ≡ Some g → is_live_group groups port n ≡ is_live_kind port (is_live_group groups port) g.kind g.buckets
unfolding leads is_live_within
live_by_kind groups port n g short e =
    let never = never_three groups n short in
    let named : any_named (leads groups 2) g ≡ false = rw e at never in
    let both = both_false (any_sends (leads groups 2) g.buckets) (any_watches (leads groups 2) g.kind g.buckets) named in
    rw e (kind_same port (leads groups 2) (is_live_within groups port 2) (is_live_within groups port 3) (within_more groups port 2) g.kind g.buckets both.1)
