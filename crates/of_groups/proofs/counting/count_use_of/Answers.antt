use Rattle.std.proofs.Common.{◌∙◌, sym, ap, eqb, List}
use Rattle.std.specs.Prelude.{position}
use Rattle.of_groups.{specs.declared.bucket.Bucket.Bucket, specs.declared.group.Group.Group, specs.Buckets.used_at, proofs.CountLemmas.changed_place, proofs.CountLemmas.unchanged_at}
use Rattle.of_groups.proofs.counting.count_use_of.Goals as goal

pub returns-in-None : goal.returns-in-None
returns-in-None c =
    unchanged_at c.args.id (λ (g : Group). record g { buckets = used_at c.args.place c.args.bytes g.buckets }) c.args.groups.now.items
    (sym (ap (position (λ (g : Group). eqb g.id c.args.id)) c.deref.ensures.value) ∙ (sym c.place_of.ensures ∙ c.in-None.is))

pub returns : goal.returns
returns c =
    changed_place c.args.id c.in-Some.at (λ (g : Group). record g { buckets = used_at c.args.place c.args.bytes g.buckets }) c.args.groups.now.items _ c.index_mut.result.now c.requires
    (sym (ap (position (λ (g : Group). eqb g.id c.args.id)) c.deref.ensures.value) ∙ (sym c.place_of.ensures ∙ c.in-Some.is))
    (ap (λ (bs : List Bucket). record c.index_mut.result.now { buckets = bs }) c.count.ensures ∙ ap (λ (g : Group). record g { buckets = used_at c.args.place c.args.bytes g.buckets }) c.index_mut.ensures.value)
