-- Rows of groups.
use Rattle.std.proofs.Common.{◌≡◌, ◌≤◌, ℕ, ◌+◌, ◌*◌, List, [], ◌∷◌, ◌++◌, length, refl, ◌∙◌, append_assoc, arith}
use Rattle.std.{specs.List.flat_map, proofs.lemmas.List.length-append}
use Rattle.byteorder.specs.Endian.{big_bytes}
use Rattle.of_groups.specs.{Groups.kind_number, declared.bucket.Bucket.Bucket, declared.group.Group.Group}
use Rattle.of_messages.specs.CanonicalGroups.{canonical_buckets}
use Rattle.of_statistics.specs.{Durations.duration, Groups.bucket_row, Groups.group_fixed_part, Groups.group_row, Groups.group_description}

length_bucket : (b : Bucket) → length (bucket_row b) ≡ 16
unfolding bucket_row
length_bucket b = refl

length_buckets : (bs : List Bucket) → length (flat_map bucket_row bs) ≡ 16 * length bs
length_buckets [] = refl
length_buckets (b ∷ bs) = omega (arith, length_bucket b, length_buckets bs, length-append (bucket_row b) (flat_map bucket_row bs))

pub group_row_is : (now count : ℕ) (g : Group) {s1 s2 : List ℕ} (s0 s3 : List ℕ) → s0 ≡ [] → s1 ≡ s0 ++ group_fixed_part count g → s2 ≡ s1 ++ duration now g.created → s3 ≡ s2 ++ flat_map bucket_row g.buckets → s3 ≡ group_row now count g
unfolding group_row group_fixed_part duration
group_row_is now count g s0 s3 e0 e1 e2 e3 =
    let whole : s3 ≡ ([] ++ group_fixed_part count g ++ duration now g.created) ++ flat_map bucket_row g.buckets = cc in
    whole ∙ append_assoc (group_fixed_part count g) (duration now g.created) (flat_map bucket_row g.buckets)

pub group_row_short : (now count : ℕ) (g : Group) → length g.buckets ≤ 16 → length (group_row now count g) ≤ 65519
unfolding group_row
group_row_short now count g few = omega (arith, few, length_buckets g.buckets)

pub description_is : (size : ℕ) (g : Group) (buckets : List ℕ) {s1 s2 s3 : List ℕ} (s0 s4 : List ℕ) → buckets ≡ canonical_buckets g.buckets → size ≡ 8 + length buckets
    → s0 ≡ [] → s1 ≡ s0 ++ big_bytes 2 size → s2 ≡ s1 ++ kind_number g.kind ∷ 0 ∷ [] → s3 ≡ s2 ++ big_bytes 4 g.id → s4 ≡ s3 ++ buckets → s4 ≡ group_description g
unfolding group_description
description_is size g buckets s0 s4 is size_is e0 e1 e2 e3 e4 =
    let whole : s4 ≡ ((([] ++ big_bytes 2 size) ++ (kind_number g.kind ∷ 0 ∷ [])) ++ big_bytes 4 g.id) ++ buckets = cc in
    let parts : s4 ≡ big_bytes 2 size ++ ((kind_number g.kind ∷ 0 ∷ []) ++ (big_bytes 4 g.id ++ buckets)) = whole ∙ simp append_assoc in
    rw (← is, ← size_is) parts
