use Rattle.std.{specs.Prelude.map, proofs.Common.◌∙◌, proofs.Common.ap, proofs.Common.arith}
use Rattle.of_groups.{specs.Buckets.fresh, proofs.BucketLemmas.fit_reset, proofs.BucketLemmas.all_lent}
use Rattle.of_groups.proofs.buckets.Buckets.reset.Goals as goal

pub invariant_of-self : goal.invariant_of-self
invariant_of-self c =
    rw (all_lent c.reset_all.new.buckets c.self.inside.buckets.items c.self.inside.buckets.len (omega arith) (omega arith))
    (fit_reset c.self.inside.buckets.items c.reset_all.new.buckets (c.reset_all.ensures ∙ ap (map fresh) c.deref_mut.ensures.value) c.self.invariant)

pub returns-clause-fit : goal.returns-clause-fit
returns-clause-fit c =
    rw (all_lent c.reset_all.new.buckets c.self.inside.buckets.items c.self.inside.buckets.len (omega arith) (omega arith))
    (fit_reset c.self.inside.buckets.items c.reset_all.new.buckets (c.reset_all.ensures ∙ ap (map fresh) c.deref_mut.ensures.value) c.self.invariant)
