use Rattle.std.proofs.Common.{refl}
use Rattle.of_diff.proofs.GatheringLemmas.{at_same_place, is_inside, puts_joined, puts_pushed}
use Rattle.of_diff.proofs.gathering.put_difference.Goals as goal

pub returns-in_ok-push-in-None : goal.returns-in_ok-push-in-None
returns-in_ok-push-in-None c = puts_pushed c.args.difference c.args.found.now.items _ c.in_ok-push-in-None.ensures.items

pub returns-in_ok-append-in-Some : goal.returns-in_ok-append-in-Some
returns-in_ok-append-in-Some c =
    let found = c.args.found.now.items in
    let x = c.index_mut.result.now in
    let there = rw c.deref.ensures.value at c.in-Some.ensures in
    let lt = is_inside found c.in-Some.index _ there in
    puts_joined c.args.difference found c.in-Some.index x _ c.index_mut.ensures.value lt c.in_ok-append-in-Some.ensures.items refl refl refl refl refl (at_same_place found c.in-Some.index x _ c.index_mut.ensures.value lt there)
