use Rattle.std.proofs.Common.{sym}
use Rattle.of_require.proofs.DecidingLemmas.{frame_shown, none_shown}
use Rattle.of_require.proofs.deciding.sought_among.Goals as goal

pub returns-in-Some : goal.returns-in-Some
returns-in-Some c = λ w steps plain port found receives fits are same.
    frame_shown w c.args.requirement.now steps port found fits are c.in-Some.shown (rw same c.in-Some.ensures.some)

pub returns-in-None : goal.returns-in-None
returns-in-None c = λ w steps plain port found receives fits are same.
    rw (sym same) (none_shown w c.args.requirement.now steps port found fits are plain (rw same c.in-None.ensures.none))
