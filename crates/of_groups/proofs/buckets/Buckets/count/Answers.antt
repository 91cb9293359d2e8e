use Rattle.std.proofs.Common.{◌∙◌, ap, arith}
use Rattle.of_groups.{specs.Buckets.used_at, proofs.BucketLemmas.fit_used, proofs.BucketLemmas.all_lent}
use Rattle.of_groups.proofs.buckets.Buckets.count.Goals as goal

pub invariant_of-self : goal.invariant_of-self
invariant_of-self c =
    rw (all_lent c.count_at.new.buckets c.self.inside.buckets.items c.self.inside.buckets.len (omega arith) (omega arith))
    (fit_used c.args.place c.args.bytes c.self.inside.buckets.items c.count_at.new.buckets (c.count_at.ensures ∙ ap (used_at c.args.place c.args.bytes) c.deref_mut.ensures.value) c.self.invariant)
