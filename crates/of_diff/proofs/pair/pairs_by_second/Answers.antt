use Rattle.std.proofs.Common.{refl}
use Rattle.of_diff.{specs.Pairs.IsBySecond, proofs.PairLemmas.more_lined_up}
use Rattle.of_diff.proofs.pair.pairs_by_second.Goals as goal

pub loop-case-preserved : goal.loop-case-preserved
loop-case-preserved c = rw c.in_ok-push.ensures.items (more_lined_up (IsBySecond c.args.first.now) c.loop-case.yielded c.loop-case.pairs.items c.in-Some.case _ c.loop-case.invariant (refl, refl, c.in_ok-copy.ensures.same))
