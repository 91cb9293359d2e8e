use Rattle.std.proofs.Common.{◌≡◌, length}
use Rattle.of_wire.proofs.Changing.{changed_to}
use Rattle.of_groups.specs.Buckets.{fresh}
use Rattle.of_groups.proofs.buckets.reset_all.Given as goal

abbrev pub invariant-loop-bucket : goal.invariant-loop-bucket
invariant-loop-bucket l = record {
  buckets : l.buckets ≡ changed_to fresh l.bucket-index l.initial.buckets;
  length : length l.buckets ≡ length l.initial.buckets;
}
