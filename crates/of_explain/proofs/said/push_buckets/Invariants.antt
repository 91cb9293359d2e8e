use Rattle.std.{specs.Prelude.map, specs.List.flat_map, proofs.Common.◌≡◌, proofs.Common.◌++◌, proofs.Common.take}
use Rattle.of_text.specs.{Groups.bucket_rows, Views.view_bucket}
use Rattle.of_explain.proofs.said.push_buckets.Given as goal

abbrev pub invariant-loop-bucket : goal.invariant-loop-bucket
invariant-loop-bucket l = l.rows.items ≡ l.initial.rows.items ++ flat_map bucket_rows (map view_bucket (take l.bucket-index l.buckets))
