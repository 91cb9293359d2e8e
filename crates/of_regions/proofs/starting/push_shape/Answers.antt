use Rattle.of_regions.{proofs.StartLemmas.one_begun, proofs.StartLemmas.two_begun}
use Rattle.of_regions.proofs.starting.push_shape.Goals as goal

pub returns-then-by_tag : goal.returns-then-by_tag
returns-then-by_tag c =
    rw (c.in_ok-push_some-2.ensures, c.in_ok-push_some.ensures)
    (two_begun c.args.own.now c.args.shape c.args.regions.now.items c.of_match.result c.of_match-then-by_tag.result c.of_match.ensures.matched c.of_match.ensures.all c.of_match-then-by_tag.ensures.matched c.of_match-then-by_tag.ensures.all)

pub returns : goal.returns
returns c =
    rw c.in_ok-push_some-3.ensures (one_begun c.args.own.now c.args.shape c.args.regions.now.items c.of_match-2.result c.of_match-2.ensures.matched c.of_match-2.ensures.all)
