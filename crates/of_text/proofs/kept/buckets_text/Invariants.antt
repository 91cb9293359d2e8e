use Rattle.std.{specs.Prelude.map, specs.List.AllByRecursion, specs.List.flat_map, proofs.Common.◌≡◌, proofs.Common.◌++◌, proofs.Common.drop}
use Rattle.of_text.specs.{Groups.bucket_rows, Groups.bucket_text, Views.view_bucket}
use Rattle.of_lines.specs.Rows.{Fits}
use Rattle.of_text.proofs.kept.buckets_text.Given as goal

abbrev pub invariant-loop-bucket : goal.invariant-loop-bucket
invariant-loop-bucket l = record {
  made : map view_bucket l.made.items ++ map bucket_text (drop l.bucket-index l.buckets) ≡ map bucket_text l.buckets;
  fits : AllByRecursion Fits (flat_map bucket_rows (map view_bucket l.made.items));
}
