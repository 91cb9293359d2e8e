use Rattle.of_alike.{specs.Emitting.LeaveAlike, proofs.EmittingLemmas.none_if}
use Rattle.of_alike.proofs.leaving.leave_alike.Goals as goal

pub returns : goal.returns
returns c = λ yes.
    none_if c.other_ingress.result (LeaveAlike c.args.compared c.args.ports.now c.args.frames.now c.args.a.now c.args.b.now) c.is_none.result c.other_ingress.ensures.none c.is_none.ensures yes
