use Rattle.std.{specs.Slice.Iter.iter_rest, proofs.Common.drop, proofs.Common.map}
use Rattle.of_alike.specs.SameGroups.{bucket_key}
use Rattle.of_symbolic_run.proofs.Pairing.{SameIfLeft}
use Rattle.of_alike.proofs.groups.are_same_buckets.Given as goal

abbrev pub invariant-loop-bucket : goal.invariant-loop-bucket
invariant-loop-bucket l = SameIfLeft (map bucket_key l.a) (map bucket_key l.b) (map bucket_key (drop l.bucket-index l.a)) (map bucket_key (iter_rest l.others))
