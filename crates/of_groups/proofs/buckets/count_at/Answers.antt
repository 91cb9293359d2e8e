use Rattle.of_groups.proofs.BucketLemmas.{use_set, used_beyond}
use Rattle.of_groups.proofs.buckets.count_at.Goals as goal

pub returns-then-place-buckets : goal.returns-then-place-buckets
returns-then-place-buckets c =
    use_set c.args.place c.args.bytes c.args.buckets.now c.count_use.new.bucket c.index-buckets-place.result c.if-place-buckets.true c.count_use.ensures

pub returns-else-place-buckets : goal.returns-else-place-buckets
returns-else-place-buckets c = used_beyond c.args.place c.args.bytes c.args.buckets.now c.if-place-buckets.false
