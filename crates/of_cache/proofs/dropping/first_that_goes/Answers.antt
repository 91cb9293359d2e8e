use Rattle.std.proofs.Common.{◌≡◌, List, map, sym, ap, ◌∙◌}
use Rattle.std.{specs.Map.Iter.deref_pair, specs.List.list_any, proofs.lemmas.Map.Iter.iter_end}
use Rattle.of_cache.{specs.Regions.AnsweredRegion, specs.Causes.goes, proofs.Popping.none_more_goes}
use Rattle.of_cache.proofs.dropping.first_that_goes.Goals as goal

pub loop-region-preserved : goal.loop-region-preserved
loop-region-preserved c = none_more_goes (goes c.args.cause.now) deref_pair c.loop-region.yielded (c.in-Some.region, c.in-Some.answer) c.loop-region.invariant (sym c.goes.ensures ∙ c.if-goes.false)

pub returns : goal.returns
returns c =
    let e : map deref_pair c.loop-region.yielded ≡ c.args.rows.now.entries = (iter_end deref_pair c.args.rows.now.entries c.loop-region.yielded c.into_iter-region-iterator.result c.loop-region.region-iterator c.next.new.self c.next.result (c.into_iter-region-iterator.ensures.into_iter_gives ∙ c.iter-region-items.ensures.rest) c.loop-region.yielded_by c.in-None.is c.next.ensures.steps).0 in
    sym (ap (λ (rows : List AnsweredRegion). list_any (goes c.args.cause.now) rows) e) ∙ c.loop-region.invariant
