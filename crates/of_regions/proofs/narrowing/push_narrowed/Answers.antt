use Rattle.of_regions.proofs.NarrowingLemmas.{one_narrowed, two_narrowed}
use Rattle.of_regions.proofs.narrowing.push_narrowed.Goals as goal

pub returns-then-are_about_tags : goal.returns-then-are_about_tags
returns-then-are_about_tags c =
    rw (c.in_ok-push_some-2.ensures, c.in_ok-push_some.ensures)
    (two_narrowed c.args.fields.now c.args.region c.tagged.result c.untagged.result c.args.out.now.items c.with_conditions.result c.with_conditions-then-are_about_tags.result
    c.tagged.ensures.within c.untagged.ensures.within c.tagged.ensures.all c.untagged.ensures.all
    c.with_conditions.ensures.within c.with_conditions-then-are_about_tags.ensures.within c.with_conditions.ensures.all c.with_conditions-then-are_about_tags.ensures.all)

pub returns : goal.returns
returns c =
    rw c.in_ok-push_some-3.ensures (one_narrowed c.args.fields.now c.args.region c.args.out.now.items c.with_conditions-2.result c.with_conditions-2.ensures.within c.with_conditions-2.ensures.all)
