use Rattle.std.proofs.Common.{refl}
use Rattle.of_diff.proofs.FindingLemmas.{ends, leave_one, leaving_begins, no_length}
use Rattle.of_diff.proofs.differing.give_up.Goals as goal

pub loop-pair-init : goal.loop-pair-init
loop-pair-init c = λ k w v steps. leaving_begins k w v steps c.args.pairs.items c.args.so_far.now

pub loop-pair-preserved : goal.loop-pair-preserved
loop-pair-preserved c = λ k w v steps left begun.
    leave_one k w v steps c.pop.new.self.items c.in-Some.pair c.loop-pair.so_far _ (rw c.in-Some.ensures.items at (c.loop-pair.invariant k w v steps left begun)) refl c.in_ok-push.ensures.items

pub returns : goal.returns
returns c = λ k w v steps ports left begun.
    let none = no_length c.loop-pair.pairs c.in_default.ensures.cases.0 in
    ends k w v steps c.loop-pair.so_far ports (rw none at (c.loop-pair.invariant k w v steps left begun).so_far)
