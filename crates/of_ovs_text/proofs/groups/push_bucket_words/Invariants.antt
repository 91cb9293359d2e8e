use Rattle.std.{specs.List.flat_map, proofs.Common.◌≡◌, proofs.Common.◌++◌, proofs.Common.drop, proofs.Common.map}
use Rattle.of_text.specs.Views.{view_bucket}
use Rattle.of_ovs_text.specs.Groups.{bucket_in_words}
use Rattle.of_ovs_text.proofs.groups.push_bucket_words.Given as goal

abbrev pub invariant-loop-bucket : goal.invariant-loop-bucket
invariant-loop-bucket l = l.out.items ++ flat_map bucket_in_words (map view_bucket (drop l.bucket-index l.buckets)) ≡ l.fn.out.items ++ flat_map bucket_in_words (map view_bucket l.buckets)
