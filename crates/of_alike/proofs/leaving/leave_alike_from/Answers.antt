use Rattle.std.proofs.Common.{refl}
use Rattle.of_alike.proofs.SendingLemmas.{alike_from}
use Rattle.of_alike.proofs.leaving.leave_alike_from.Goals as goal

pub returns-then-tell_alike : goal.returns-then-tell_alike
returns-then-tell_alike c = λ yes.
    alike_from c.args.compared c.args.ports.now c.args.ingress c.args.a.now c.args.b.now c.requires (c.if-tell_alike.ensures refl) (c.send_alike_from.ensures yes)
