use Rattle.std.{specs.List.All, proofs.Common.subst, proofs.Common.take_all, proofs.lemmas.List.Elements.All-more}
use Rattle.of_alike.{specs.Emitting.IsAlikeBy, proofs.SendingLemmas.alike_by_each}
use Rattle.of_alike.proofs.sending.send_alike_from.Goals as goal

pub loop-port-preserved : goal.loop-port-preserved
loop-port-preserved c =
    All-more (IsAlikeBy c.args.ingress c.args.a.now c.args.b.now) c.args.ports.now c.loop-port.port-index _ c.loop-port-test.true c.loop-port.invariant (c.is_alike_by.ensures c.if-not-is_alike_by.false)

pub returns : goal.returns
returns c = λ yes.
    let ports = c.args.ports.now in
    let each = subst (All (IsAlikeBy c.args.ingress c.args.a.now c.args.b.now)) (take_all c.loop-port.port-index ports c.loop-port-test.false) c.loop-port.invariant in
    alike_by_each ports c.args.ingress c.args.a.now c.args.b.now each
