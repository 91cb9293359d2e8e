-- Buckets whose counters change.
use Rattle.std.proofs.Common.{◌≡◌, ℕ, zero, suc, ◌<◌, ◌≤◌, Bool, true, List, [], ◌∷◌, ◌++◌, length, get_or, set, take, drop, refl, ap, arith}
use Rattle.std.{specs.Prelude.◌&&◌, specs.Prelude.map, specs.List.list_all, proofs.lemmas.List.take_all, proofs.lemmas.List.drop_all, proofs.lemmas.List.append-nil}
use Rattle.of_groups.specs.Buckets.{is_fit, are_fit, fresh, used_bucket, used_at}
use Rattle.of_groups.specs.declared.bucket.Bucket.{Bucket}

fresh_length : (buckets : List Bucket) → length (map fresh buckets) ≡ length buckets
fresh_length [] = refl
fresh_length (b ∷ buckets) = ap suc (fresh_length buckets)

fresh_all : (buckets : List Bucket) → list_all is_fit (map fresh buckets) ≡ list_all is_fit buckets
fresh_all [] = refl
fresh_all (b ∷ buckets) = ap (λ (x : Bool). is_fit b && x) (fresh_all buckets)

pub fresh_fit : (buckets : List Bucket) → are_fit (map fresh buckets) ≡ are_fit buckets
fresh_fit buckets = rw (fresh_length buckets, fresh_all buckets) refl

pub used_length : (place bytes : ℕ) (buckets : List Bucket) → length (used_at place bytes buckets) ≡ length buckets
used_length place bytes [] = refl
used_length zero bytes (b ∷ buckets) = refl
used_length (suc place) bytes (b ∷ buckets) = ap suc (used_length place bytes buckets)

used_all : (place bytes : ℕ) (buckets : List Bucket) → list_all is_fit (used_at place bytes buckets) ≡ list_all is_fit buckets
used_all place bytes [] = refl
used_all zero bytes (b ∷ buckets) = refl
used_all (suc place) bytes (b ∷ buckets) = ap (λ (x : Bool). is_fit b && x) (used_all place bytes buckets)

pub used_fit : (place bytes : ℕ) (buckets : List Bucket) → are_fit (used_at place bytes buckets) ≡ are_fit buckets
used_fit place bytes buckets = rw (used_length place bytes buckets, used_all place bytes buckets) refl

pub used_set : (place bytes : ℕ) (buckets : List Bucket) (d : Bucket) → place < length buckets → set buckets place (used_bucket bytes (get_or buckets place d)) ≡ used_at place bytes buckets
used_set place bytes [] d lt = absurd (omega (arith, lt))
used_set zero bytes (b ∷ buckets) d lt = refl
used_set (suc place) bytes (b ∷ buckets) d lt = ap (λ (bs : List Bucket). b ∷ bs) (used_set place bytes buckets d (omega (arith, lt)))

pub used_beyond : (place bytes : ℕ) (buckets : List Bucket) → length buckets ≤ place → buckets ≡ used_at place bytes buckets
used_beyond place bytes [] le = refl
used_beyond zero bytes (b ∷ buckets) le = absurd (omega (arith, le))
used_beyond (suc place) bytes (b ∷ buckets) le = ap (λ (bs : List Bucket). b ∷ bs) (used_beyond place bytes buckets (omega (arith, le)))

pub fit_reset : (old new : List Bucket) → new ≡ map fresh old → are_fit old ≡ true → are_fit new ≡ true
fit_reset old new e h = rw (e, fresh_fit old) h

pub fit_used : (place bytes : ℕ) (old new : List Bucket) → new ≡ used_at place bytes old → are_fit old ≡ true → are_fit new ≡ true
fit_used place bytes old new e h = rw (e, used_fit place bytes old) h

pub use_set : (place bytes : ℕ) (buckets : List Bucket) (b d : Bucket) → place < length buckets → b ≡ used_bucket bytes (get_or buckets place d) → set buckets place b ≡ used_at place bytes buckets
use_set place bytes buckets b d lt e = rw e (used_set place bytes buckets d lt)

-- what a loan of all elements leaves
pub all_lent : {X : Type 0} (new old : List X) (n : ℕ) → n ≡ length new → length old ≤ n → take n (new ++ drop (length new) old) ≡ new
all_lent new old n e le =
    let none : drop (length new) old ≡ [] = drop_all (length new) old (omega (arith, e, le)) in
    rw (none, append-nil new) (take_all n new (omega (arith, e)))
