use Rattle.std.proofs.Common.{arith}
use Rattle.of_text.{specs.Groups.bucket_rows, specs.Groups.bucket_text, specs.Views.view_bucket, proofs.MadeLemmas.mapped_more, proofs.MadeLemmas.fits_more, proofs.MadeLemmas.bucket_served}
use Rattle.of_text.proofs.kept.buckets_text.Goals as goal

pub bucket_text-requires : goal.bucket_text-requires
bucket_text-requires c = bucket_served c.args.buckets.now c.loop-bucket.bucket-index c.bucket-item.result (omega arith) c.bucket-item.is c.requires

pub loop-bucket-preserved : goal.loop-bucket-preserved
loop-bucket-preserved c = record {
  made = mapped_more view_bucket bucket_text c.args.buckets.now c.loop-bucket.bucket-index c.bucket-item.result _ _ _ _ (omega arith) c.bucket-item.is c.in_ok-bucket_text.ensures.text c.in_ok-push.ensures.items c.loop-bucket.invariant.made;
  fits = fits_more view_bucket bucket_rows _ _ _ c.in_ok-push.ensures.items c.in_ok-bucket_text.ensures.fits c.loop-bucket.invariant.fits;
}
