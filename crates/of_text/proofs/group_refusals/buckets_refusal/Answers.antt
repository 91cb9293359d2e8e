use Rattle.std.{specs.List.flat_map, proofs.Common.◌∙◌, proofs.Common.ap}
use Rattle.of_wire.specs.Refusals.{first_of}
use Rattle.of_text.{specs.declared.group.BucketText.BucketText, specs.Refusals.list_refusals, specs.Views.view_bucket, proofs.JudgeLemmas.buckets_same}
use Rattle.of_text.proofs.group_refusals.buckets_refusal.Goals as goal

pub returns : goal.returns
returns c =
    buckets_same c.args.buckets.now c.each_refusal-each.result c.applied-many.result _
    (c.each_refusal-each.ensures ∙ ap (λ bs. first_of (flat_map (λ (b : BucketText). list_refusals (view_bucket b).actions) bs)) c.first_buckets.ensures)
    c.applied-many.ensures c.first.ensures
