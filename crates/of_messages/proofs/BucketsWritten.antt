-- Buckets as bytes.
use Rattle.std.proofs.Common.{◌≡◌, ◌≤◌, ℕ, ◌+◌, ◌*◌, true, false, List, [], ◌++◌, ◌∷◌, length, refl, ◌∙◌, append_assoc, arith}
use Rattle.std.{specs.Prelude.Result, specs.Prelude.OnOk, specs.Prelude.replicate, specs.List.list_all, proofs.lemmas.List.length-append, proofs.lemmas.Bool.Decides.nat_tests}
use Rattle.byteorder.specs.Endian.{big_bytes}
use Rattle.of_actions.{specs.Supported.are_supported, specs.CanonicalActions.canonical_actions, proofs.ActionsAgain.canonical_short}
use Rattle.of_groups.specs.{declared.bucket.Bucket.Bucket, Buckets.is_fit, Buckets.are_fit}
use Rattle.of_messages.specs.{declared.group_mod.NewGroup.NewGroup, Written.message_header, Written.message}
use Rattle.of_messages.{specs.CanonicalGroups.canonical_bucket, specs.CanonicalGroups.canonical_buckets, specs.CanonicalGroups.group_add_fixed_part, proofs.Appended.six_or}

pub length_bucket : (b : Bucket) → length (canonical_bucket b) ≡ 16 + length (canonical_actions b.actions)
unfolding canonical_bucket
length_bucket b = omega arith

buckets_within : (bs : List Bucket) → list_all is_fit bs ≡ true → length (canonical_buckets bs) ≤ 1552 * length bs
buckets_within [] h = omega arith
buckets_within (b ∷ bs) h =
    let served : are_supported false b.actions ≡ true = grind (arith, nat_tests) in
    let short = (canonical_short false b.actions served).short in
    let others = buckets_within bs (grind (arith, nat_tests)) in
    omega (arith, length_bucket b, length-append (canonical_bucket b) (canonical_buckets bs))

-- 16 buckets of 64 actions, each of 24 bytes
pub buckets_short : (bs : List Bucket) → are_fit bs ≡ true → length (canonical_buckets bs) ≤ 24832
buckets_short bs h =
    let few : length bs ≤ 16 = grind (arith, nat_tests) in
    let all : list_all is_fit bs ≡ true = grind (arith, nat_tests) in
    let within = buckets_within bs all in
    omega arith

pub length_front : (g : NewGroup) → length (group_add_fixed_part g) ≡ 8
unfolding group_add_fixed_part
length_front g = refl

-- a GROUP_MOD, part by part
pub group_add_is : (xid len : ℕ) (g : NewGroup) (buckets : List ℕ) {s1 s2 : List ℕ} (s0 s3 : List ℕ)
    → s0 ≡ [] → s1 ≡ s0 ++ message_header 15 len xid → s2 ≡ s1 ++ group_add_fixed_part g → s3 ≡ s2 ++ buckets
    → len ≡ 16 + length buckets
    → s3 ≡ message 15 xid (group_add_fixed_part g ++ buckets)
group_add_is xid len g buckets s0 s3 e0 e1 e2 e3 len_is =
    let whole : s3 ≡ ((([] ++ message_header 15 len xid) ++ group_add_fixed_part g) ++ buckets) = cc in
    let parts : s3 ≡ message_header 15 len xid ++ (group_add_fixed_part g ++ buckets) = whole ∙ simp append_assoc in
    let total : len ≡ 8 + length (group_add_fixed_part g ++ buckets) = omega (arith, len_is, length-append (group_add_fixed_part g) buckets, length_front g) in
    rw (← total) parts

-- a bucket, part by part
pub bucket_is : {A E : Type 0} (r : Result A E) {s1 s2 s3 s4 s5 : List ℕ} (s0 s6 actions : List ℕ) (len : ℕ) (b : Bucket) → actions ≡ canonical_actions b.actions → len ≡ 16 + length actions
    → s1 ≡ s0 ++ big_bytes 2 len → s2 ≡ s1 ++ big_bytes 2 b.weight → s3 ≡ s2 ++ big_bytes 4 b.watch_port → s4 ≡ s3 ++ big_bytes 4 b.watch_group → s5 ≡ s4 ++ replicate 4 0 → OnOk r (s6 ≡ s5 ++ actions)
    → OnOk r (s6 ≡ s0 ++ canonical_bucket b)
unfolding canonical_bucket
bucket_is r s0 s6 actions len b is len_is e1 e2 e3 e4 e5 last =
    rw (← is, ← len_is) (six_or r s0 s6 _ _ _ _ _ _ e1 e2 e3 e4 e5 last)
