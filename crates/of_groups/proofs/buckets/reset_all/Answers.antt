use Rattle.std.proofs.{Common.◌∙◌, lemmas.List.length-set}
use Rattle.of_wire.proofs.Changing.{changed_more}
use Rattle.of_groups.specs.Buckets.{fresh}
use Rattle.of_groups.proofs.buckets.reset_all.Goals as goal

pub loop-bucket-preserved : goal.loop-bucket-preserved
loop-bucket-preserved c = record {
  buckets = changed_more fresh c.loop-bucket.bucket-index c.args.buckets.now c.loop-bucket.buckets c.reset_one.new.bucket c.bucket-item.result c.loop-bucket-test.true c.loop-bucket.invariant.buckets c.reset_one.ensures;
  length = length-set c.loop-bucket.buckets c.loop-bucket.bucket-index c.reset_one.new.bucket ∙ c.loop-bucket.invariant.length;
}
