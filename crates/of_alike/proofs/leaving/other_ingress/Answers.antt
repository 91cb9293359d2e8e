use Rattle.std.{specs.List.All, proofs.Common.refl}
use Rattle.of_alike.{specs.Emitting.IsAlikeFrom, specs.Emitting.LeaveAlike, proofs.AlikeLemmas.if_none, proofs.SendingLemmas.alike_from_each, proofs.SendingLemmas.none_leave_alike}
use Rattle.of_alike.proofs.leaving.other_ingress.Goals as goal

pub returns-then-are_empty-clause-none : goal.returns-then-are_empty-clause-none
returns-then-are_empty-clause-none c =
    let none = c.if-are_empty.ensures.0 refl in
    c.rests.ensures.alike c.args.compared c.args.ports.now c.args.frames.now (none_leave_alike c.args.compared c.args.ports.now c.args.frames.now c.rests.result.0.now c.rests.result.1.now none.0 none.1)

-- what follows in equal lists after all is nothing
pub returns-clause-some : goal.returns-clause-some
returns-clause-some c = λ is same. let empty = c.if-are_empty.ensures.1 (c.rests.ensures.equal same) in absurd cc

pub returns-clause-none : goal.returns-clause-none
returns-clause-none c =
    let compared = c.args.compared in
    let ports = c.args.ports.now in
    let frames = c.args.frames.now in
    let left = c.rests.result.0.now in
    let right = c.rests.result.1.now in
    if_none c.first_ingress.result (All (IsAlikeFrom compared ports frames left right) ports) (LeaveAlike compared ports frames c.args.a.now c.args.b.now)
    (λ each. c.rests.ensures.alike compared ports frames (alike_from_each compared ports frames left right each)) c.first_ingress.ensures
