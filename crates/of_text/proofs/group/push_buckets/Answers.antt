use Rattle.of_text.{specs.Groups.bucket_rows, specs.Views.view_bucket, proofs.PushLemmas.appended}
use Rattle.of_text.proofs.group.push_buckets.Goals as goal

pub loop-bucket-preserved : goal.loop-bucket-preserved
loop-bucket-preserved c =
    appended bucket_rows view_bucket c.args.rows.now.items c.loop-bucket.rows.items c.push_bucket.new.rows.items c.args.buckets.now c.loop-bucket.bucket-index c.bucket-item.result
    c.loop-bucket-test.true c.bucket-item.is c.loop-bucket.invariant c.in_ok-push_bucket.ensures
