use Rattle.std.{specs.Option.option_map, proofs.Common.◌∙◌, proofs.Common.ap, proofs.Common.sym, proofs.Common.Some}
use Rattle.of_groups.{specs.declared.bucket.Bucket.Bucket, proofs.WorldLemmas.slice_at}
use Rattle.of_groups.proofs.groups.actions_at.Goals as goal

pub returns : goal.returns
returns c = ap (option_map (λ (b : Bucket). b.actions)) (slice_at c.args.buckets.now c.args.place c.index-buckets-place.result c.requires) ∙ ap Some (sym c.as_slice.ensures.actions)
