-- Rows of groups that are written are encoded.
use Rattle.std.proofs.Common.{◌≡◌, ◌≤◌, ◌<◌, ◌^◌, ℕ, ◌+◌, ◌*◌, true, List, [], ◌∷◌, ◌++◌, length, map, refl, ap, ◌∙◌, arith}
use Rattle.std.{specs.List.flat_map, specs.List.list_all, proofs.lemmas.Bool.Decides.nat_tests, proofs.lemmas.List.append_assoc, proofs.lemmas.List.length-map}
use Rattle.of_groups.specs.{Buckets.are_fit, Buckets.is_fit, declared.bucket.Bucket.Bucket, declared.group.Group.Group}
use Rattle.of_messages.{specs.CanonicalGroups.canonical_buckets, proofs.BucketsWritten.buckets_short}
use Rattle.of_table.specs.Tables.{Tables}
use Rattle.of_statistics.specs.Groups.{bucket_row, group_description, group_row, references, row_among}
use Rattle.of_statistics.proofs.GroupRows.{group_row_short}
use Rattle.of_laws.specs.ReplyRows.{BucketStats, IsGroupRow, group_stats_cells, bucket_stats_cells, IsDescribed, group_description_cells}
use Rattle.of_laws.specs.{Cells.u16_cell, Shown.IsShownGroup, Shown.group_shown, Shown.IsDescribable, Shown.group_described}
use Rattle.of_laws.proofs.{Writings.encoding, Writings.written, WrittenRequests.buckets_encoded, WrittenRequests.kind_fits, WrittenRequests.kind_same}

-- ---- GROUP

abbrev bucket_shown : Bucket → BucketStats
bucket_shown b = record { packets = b.packets; bytes = b.bytes }

counters_text : (bs : List Bucket) (rest : List ℕ) → flat_map bucket_row bs ++ rest ≡ encoding (bucket_stats_cells (map bucket_shown bs)) ++ rest
unfolding bucket_row
counters_text [] rest = refl
counters_text (b ∷ bs) rest =
    let behind = bucket_row b in
    append_assoc behind (flat_map bucket_row bs) rest ∙ ap (λ (t : List ℕ). behind ++ t) (counters_text bs rest)

group_text : (all : List Group) (ts : Tables) (g : Group) (rest : List ℕ)
    → row_among all ts g ++ rest ≡ encoding (u16_cell (40 + 16 * length g.buckets) ∷ group_stats_cells (group_shown all ts g)) ++ (flat_map bucket_row g.buckets ++ rest)
unfolding group_row
group_text all ts g rest = refl

pub group_written : (all : List Group) (ts : Tables) (g : Group) (rest : List ℕ) → IsShownGroup (group_shown all ts g) → IsGroupRow (group_shown all ts g) (row_among all ts g ++ rest) rest
group_written all ts g rest h =
    let s = group_shown all ts g in
    let buckets = flat_map bucket_row g.buckets ++ rest in
    let same : length s.buckets ≡ length g.buckets = length-map g.buckets bucket_shown in
    let few = h.few in
    let size : 40 + 16 * length g.buckets < 256 ^ 2 = omega (arith, few, same) in
    record {
      buckets = buckets;
      front = rw (same, group_text all ts g rest) (written (u16_cell (40 + 16 * length g.buckets) ∷ group_stats_cells s) buckets (size, h.numbers));
      behind = rw (counters_text g.buckets rest) (written (bucket_stats_cells s.buckets) rest h.counters);
    }

pub group_short : (all : List Group) (ts : Tables) (g : Group) → IsShownGroup (group_shown all ts g) → length (row_among all ts g) ≤ 65519
group_short all ts g h = let few = h.few in group_row_short ts.latest (references g.id all ts) g (omega (arith, few, length-map g.buckets bucket_shown))

-- ---- GROUP_DESC

described_text : (g : Group) (rest : List ℕ) → group_description g ++ rest ≡ encoding (u16_cell (8 + length (canonical_buckets g.buckets)) ∷ group_description_cells (group_described g)) ++ (canonical_buckets g.buckets ++ rest)
unfolding group_description
described_text g rest = rw (kind_same g.kind) refl

pub group_described_so : (g : Group) (rest : List ℕ) → IsDescribable g → IsDescribed (group_described g) (group_description g ++ rest) rest
group_described_so g rest h =
    let buckets = canonical_buckets g.buckets in
    let fit : are_fit g.buckets ≡ true = h.fit in
    let all : list_all is_fit g.buckets ≡ true = grind (arith, nat_tests) in
    let size : 8 + length buckets < 256 ^ 2 = omega (arith, buckets_short g.buckets h.fit) in
    record {
      buckets = buckets;
      front = rw (described_text g rest) (written (u16_cell (8 + length buckets) ∷ group_description_cells (group_described g)) (buckets ++ rest) (size, (kind_fits g.kind, (h.id, tt))));
      are = buckets_encoded g.buckets h.numbers all;
    }

length_described : (g : Group) → length (group_description g) ≡ 8 + length (canonical_buckets g.buckets)
unfolding group_description
length_described g = omega arith

pub described_short : (g : Group) → IsDescribable g → length (group_description g) ≤ 65519
described_short g h = omega (arith, length_described g, buckets_short g.buckets h.fit)
