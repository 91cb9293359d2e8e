use Rattle.std.{specs.List.All, proofs.Common.subst, proofs.Common.take_all, proofs.lemmas.List.Elements.All-more}
use Rattle.of_alike.specs.Emitting.{IsAlikeFrom}
use Rattle.of_alike.proofs.leaving.first_ingress.Goals as goal

pub loop-port-preserved : goal.loop-port-preserved
loop-port-preserved c =
    All-more (IsAlikeFrom c.args.compared c.args.ports.now c.args.frames.now c.args.a.now c.args.b.now) c.args.ports.now c.loop-port.port-index _ c.loop-port-test.true c.loop-port.invariant (c.is_alike_from.ensures c.if-not-is_alike_from.false)

pub returns : goal.returns
returns c = subst (All (IsAlikeFrom c.args.compared c.args.ports.now c.args.frames.now c.args.a.now c.args.b.now)) (take_all c.loop-port.port-index c.args.ports.now c.loop-port-test.false) c.loop-port.invariant
