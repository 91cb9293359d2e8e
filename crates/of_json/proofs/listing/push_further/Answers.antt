use Rattle.of_json.proofs.ListingLemmas.{next_item, no_item}
use Rattle.of_json.proofs.listing.push_further.Goals as goal

pub loop-item-preserved : goal.loop-item-preserved
loop-item-preserved g c = λ text appends.
    next_item text c.args.items.now c.loop-item.item-index c.item-item.result c.loop-item.out.items _ _ _ c.loop-item-test.true c.item-item.is c.in_ok-push.ensures.items (appends _ _ _ _ c.in_ok-push-2.ensures) (c.loop-item.invariant text appends)

pub returns : goal.returns
returns g c = λ text appends. no_item text c.args.items.now c.loop-item.item-index c.loop-item.out.items _ c.loop-item-test.false (c.loop-item.invariant text appends)
