use Rattle.std.proofs.Common.{subst, true}
use Rattle.of_serve.specs.{Turns.Gathered, Gathering.HandlesNext, Gathering.LosesNext}
use Rattle.of_serve.proofs.CutLemmas.{holding, lost_next, next_handled, on_err}
use Rattle.of_serve.proofs.gathering.Gathering.handle_next.Goals as goal

pub returns-in_ok-push-in-Some-clause-ok : goal.returns-in_ok-push-in-Some-clause-ok
returns-in_ok-push-in-Some-clause-ok g c =
    let some = rw c.in-Some.is at c.in_ok-next.ensures in
    let p = c.in_ok-push-in-Some.ensures in
    let s = c.self.inside in
    subst (λ (x : Gathered). HandlesNext true x c.push.new.self) c.self.view_is
    (next_handled (holding s.switch s.answers.items s.lines.items) c.push.new.self c.next.new.self c.in-Some.effects.items c.deref.result.now some.0 c.deref.ensures p.state p.answers p.lines)

pub returns-in_err-push-in-Some-clause-err : goal.returns-in_err-push-in-Some-clause-err
returns-in_err-push-in-Some-clause-err g c =
    let some = rw c.in-Some.is at c.in_ok-next.ensures in
    let p = c.in_err-push-in-Some.ensures in
    let s = c.self.inside in
    on_err c.from_residual-in_err-push-in-Some.result _
    (subst (λ (x : Gathered). LosesNext x c.push.new.self) c.self.view_is
    (lost_next (holding s.switch s.answers.items s.lines.items) c.push.new.self c.next.new.self c.in-Some.effects.items some.0 p.state p.err))
