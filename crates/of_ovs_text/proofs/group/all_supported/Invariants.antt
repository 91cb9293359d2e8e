use Rattle.std.{specs.List.list_all, proofs.Common.◌≡◌, proofs.Common.drop, proofs.Common.false}
use Rattle.of_actions.specs.Supported.{are_supported}
use Rattle.of_text.specs.declared.group.BucketText.{BucketText}
use Rattle.of_ovs_text.proofs.group.all_supported.Given as goal

abbrev pub invariant-loop-bucket : goal.invariant-loop-bucket
invariant-loop-bucket l = list_all (λ (b : BucketText). are_supported false b.actions.items) l.buckets ≡ list_all (λ (b : BucketText). are_supported false b.actions.items) (drop l.bucket-index l.buckets)
