use Rattle.std.proofs.Common.{arith}
use Rattle.of_text.{specs.Views.view_bucket, proofs.MadeLemmas.mapped_more}
use Rattle.of_import.proofs.copies.copy_buckets.Goals as goal

pub loop-bucket-preserved : goal.loop-bucket-preserved
loop-bucket-preserved c = record {
  made = mapped_more view_bucket view_bucket c.args.buckets.now c.loop-bucket.bucket-index c.bucket-item.result _ _ _ _ (omega arith) c.bucket-item.is c.in_ok-copy_bucket.ensures c.in_ok-push.ensures.items c.loop-bucket.invariant.made;
}
