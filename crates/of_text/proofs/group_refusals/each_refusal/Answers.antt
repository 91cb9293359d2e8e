use Rattle.std.proofs.Common.{Some, sym, ◌∙◌, arith}
use Rattle.of_text.{specs.Refusals.list_refusals, specs.Views.view_bucket, proofs.RefusalLemmas.next_first}
use Rattle.of_text.proofs.group_refusals.each_refusal.Goals as goal

pub returns-in-Some : goal.returns-in-Some
returns-in-Some c = sym (next_first (λ b. list_refusals (view_bucket b).actions) c.args.buckets.now c.loop-bucket.bucket-index c.bucket-item.result (Some c.in-Some.code) (omega arith) c.bucket-item.is (sym c.in-Some.is ∙ c.bucket_refusal.ensures) c.loop-bucket.invariant)

pub loop-bucket-preserved : goal.loop-bucket-preserved
loop-bucket-preserved c = next_first (λ b. list_refusals (view_bucket b).actions) c.args.buckets.now c.loop-bucket.bucket-index c.bucket-item.result _ (omega arith) c.bucket-item.is (sym c.in_default.is ∙ c.bucket_refusal.ensures) c.loop-bucket.invariant
