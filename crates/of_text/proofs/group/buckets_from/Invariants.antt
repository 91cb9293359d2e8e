use Rattle.std.proofs.Common.{◌≡◌, ◌≤◌, ◌+◌, ◌++◌, true, drop, length}
use Rattle.std.specs.{Prelude.map, List.list_all}
use Rattle.of_groups.specs.Buckets.{is_fit}
use Rattle.of_text.specs.{Groups.bucket_of, Views.view_bucket}
use Rattle.of_text.proofs.group.buckets_from.Given as goal

abbrev pub invariant-loop-bucket : goal.invariant-loop-bucket
invariant-loop-bucket l = record {
  fit : list_all is_fit (map bucket_of (map view_bucket (drop l.bucket-index l.buckets))) ≡ true;
  few : length l.made + length (drop l.bucket-index l.buckets) ≤ 16;
  made : l.made ++ map bucket_of (map view_bucket (drop l.bucket-index l.buckets)) ≡ map bucket_of (map view_bucket l.buckets);
}
