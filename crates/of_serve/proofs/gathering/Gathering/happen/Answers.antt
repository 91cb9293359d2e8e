use Rattle.std.proofs.Common.{ap, subst, ◌∷◌, []}
use Rattle.of_switch.specs.State.{State}
use Rattle.of_serve.proofs.CutLemmas.{holding, cut_begun, lost_behind, on_err, stopped}
use Rattle.of_serve.specs.{Turns.Gathered, Gathering.CutIn}
use Rattle.of_serve.proofs.gathering.Gathering.happen.Goals as goal

pub returns-in_err-run-clause-err : goal.returns-in_err-run-clause-err
returns-in_err-run-clause-err g c =
    let s = c.self.inside in
    let now = holding c.run.new.self s.answers.items s.lines.items in
    let ran = rw c.from_ref.ensures.value at c.in_err-run.ensures.err in
    on_err c.from_residual.result _
    (subst (λ (x : Gathered). CutIn (c.args.event.now ∷ []) x now) c.self.view_is
    (cut_begun c.args.event.now [] (holding s.switch s.answers.items s.lines.items) now
    (ap (λ (x : State). holding x s.answers.items s.lines.items) (stopped c.args.event.now s.switch c.run.new.self _ _ ran c.requires.one_step))))

pub returns-in-Some-Gives-clause-err : goal.returns-in-Some-Gives-clause-err
returns-in-Some-Gives-clause-err g c =
    let s = c.self.inside in
    let ran = rw c.from_ref.ensures.value at c.in_ok-run.ensures.ok in
    lost_behind c.args.event.now c.push.result c.args.self.now (holding s.switch s.answers.items s.lines.items) c.push.new.self c.run.new.self
    c.self.view_is c.requires.one_step ran.state c.push.ensures.state c.push.ensures.err
