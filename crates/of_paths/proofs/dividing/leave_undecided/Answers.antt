use Rattle.std.proofs.Common.{refl}
use Rattle.of_paths.proofs.SoFarLemmas.{ends, leave_one, leaving_begins, no_length}
use Rattle.of_paths.proofs.dividing.leave_undecided.Goals as goal

pub loop-case-init : goal.loop-case-init
loop-case-init c = λ m w within steps. leaving_begins m w within steps c.args.cases.items c.args.found.now

pub loop-case-preserved : goal.loop-case-preserved
loop-case-preserved c = λ m w within steps left begun.
    leave_one m w within steps c.pop.new.self.items c.in-Some.case c.loop-case.found _ (rw c.in-Some.ensures.items at (c.loop-case.invariant m w within steps left begun)) refl c.in_ok-push.ensures.items

pub returns : goal.returns
returns c = λ m w within steps left begun.
    let none = no_length c.loop-case.cases c.in_default.ensures.cases.0 in
    ends m w within steps c.loop-case.found (rw none at (c.loop-case.invariant m w within steps left begun).so_far)
