use Rattle.of_cache.proofs.Changing.{removed}
use Rattle.of_cache.proofs.cached.CachedLookup.take.Goals as goal

pub drop_answers-requires : goal.drop_answers-requires
drop_answers-requires g c = c.self.invariant.1

pub invariant_of-self : goal.invariant_of-self
invariant_of-self g c =
    let old = c.self.inside in
    (removed (g.L.Lookup.content old.inner) (g.L.Lookup.content c.take.new.self) old.rows.entries c.drop_answers.new.rows.entries c.args.number c.take.ensures c.drop_answers.ensures.entries c.self.invariant.0, c.drop_answers.ensures.masks)
