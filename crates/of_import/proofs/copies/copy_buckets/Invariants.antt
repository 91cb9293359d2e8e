use Rattle.std.{specs.Prelude.map, proofs.Common.◌≡◌, proofs.Common.◌++◌, proofs.Common.drop}
use Rattle.of_text.specs.Views.{view_bucket}
use Rattle.of_import.proofs.copies.copy_buckets.Given as goal

abbrev pub invariant-loop-bucket : goal.invariant-loop-bucket
invariant-loop-bucket l = record {
  made : map view_bucket l.copies.items ++ map view_bucket (drop l.bucket-index l.buckets) ≡ map view_bucket l.buckets;
}
