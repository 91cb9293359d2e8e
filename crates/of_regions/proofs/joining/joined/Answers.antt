use Rattle.of_regions.proofs.JoiningLemmas.{is_joined, is_not_joined}
use Rattle.of_regions.proofs.joining.joined.Goals as goal

pub returns-then-asked-bits-clause-some : goal.returns-then-asked-bits-clause-some
returns-then-asked-bits-clause-some c =
    let i = c.in-Under-Some-Some in
    rw (i.is-0, i.is-1, i.is-2) (is_joined c.args.ones i.bits i.said i.mask i.asked (rw i.is-0 at c.requires.rule) (rw (i.is-1, i.is-2) at c.requires.asked) c.if-asked-bits.true)

pub returns-else-asked-bits-clause-none : goal.returns-else-asked-bits-clause-none
returns-else-asked-bits-clause-none c =
    let i = c.in-Under-Some-Some in
    rw (i.is-0, i.is-1, i.is-2) (is_not_joined c.args.ones i.bits i.said i.mask i.asked (rw i.is-0 at c.requires.rule) (rw (i.is-1, i.is-2) at c.requires.asked) c.if-asked-bits.false)
