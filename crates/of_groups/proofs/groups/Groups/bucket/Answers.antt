use Rattle.std.proofs.Common.{◌≡◌, ◌∙◌, ap, sym, Some, List}
use Rattle.std.specs.{Prelude.slice_get, Option.option_map, Option.option_copied}
use Rattle.of_groups.{specs.declared.bucket.Bucket.Bucket, specs.Groups.find_group, proofs.WorldLemmas.bucket_within}
use Rattle.of_groups.proofs.groups.Groups.bucket.Goals as goal

pub actions_at-requires : goal.actions_at-requires
actions_at-requires c =
    let found : find_group c.args.id c.args.self.now ≡ Some c.in-Some.group.now = sym (ap (find_group c.args.id) (c.deref.ensures.value ∙ c.self.view_is)) ∙ (sym c.find_group.ensures ∙ ap option_copied c.in-Some.is) in
    rw c.as_slice.ensures.buckets (bucket_within c.args.self.now c.args.id c.args.place c.in-Some.group.now found c.requires)

pub returns : goal.returns
returns c =
    let found : find_group c.args.id c.args.self.now ≡ Some c.in-Some.group.now = sym (ap (find_group c.args.id) (c.deref.ensures.value ∙ c.self.view_is)) ∙ (sym c.find_group.ensures ∙ ap option_copied c.in-Some.is) in
    rw found (ap (λ (bs : List Bucket). option_map (λ (b : Bucket). b.actions) (slice_get bs c.args.place)) (sym c.as_slice.ensures.buckets) ∙ c.actions_at.ensures)
