use Rattle.std.{specs.List.flat_map, proofs.Common.◌≡◌, proofs.Common.◌++◌, proofs.Common.take}
use Rattle.of_statistics.specs.Groups.{bucket_row}
use Rattle.of_statistics.proofs.groups.put_buckets.Given as goal

abbrev pub invariant-loop-bucket : goal.invariant-loop-bucket
invariant-loop-bucket l = l.row.items ≡ l.fn.row.items ++ flat_map bucket_row (take l.bucket-index l.buckets)
