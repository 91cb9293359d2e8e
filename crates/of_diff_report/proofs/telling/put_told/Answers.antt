use Rattle.std.proofs.Common.{refl}
use Rattle.of_diff_report.{specs.Telling.own, proofs.TellingLemmas.told_at}
use Rattle.of_diff_report.proofs.telling.put_told.Goals as goal

pub returns-in_ok-push-in-None : goal.returns-in_ok-push-in-None
returns-in_ok-push-in-None c = own (rw c.deref.ensures.value at c.in-None.ensures.none) c.in_ok-push-in-None.ensures.items

pub returns-in_ok-push-in-Some : goal.returns-in_ok-push-in-Some
returns-in_ok-push-in-Some c =
    let old = c.args.told.now.items in
    let some = rw c.deref.ensures.value at c.in-Some.ensures.some in
    told_at c.args.further.difference.now c.args.further old c.in-Some.index c.index_mut.result.now _ c.index_mut.ensures.value some (record {
      difference = refl;
      first = refl;
      second = refl;
      region = refl;
      also = (c.args.further.difference, refl, c.in_ok-push-in-Some.ensures.items);
    })
