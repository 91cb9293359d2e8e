use Rattle.std.proofs.{Common.◌∙◌, Common.sym, Common.refl, lemmas.Result.IfOk-weaker}
use Rattle.of_datapath.{specs.Buffers.used, specs.Numbers.forwarding_of, proofs.StandingLemmas.held_stands, proofs.StandingLemmas.through_stands}
use Rattle.of_switch.proofs.{HeldHandling.begun_is, StandingSteps.called_stands}
use Rattle.of_switch.proofs.switch_core.Core.begin.Goals as goal

pub invariant_of-self : goal.invariant_of-self
invariant_of-self g c =
    let datapath = c.self.inside.datapath in
    let before = forwarding_of datapath in
    called_stands c.start_held.result _ _ _ _ _ _ _ _ _ c.start_held.ensures.ok c.start_held.ensures.err (through_stands c.heard_open.result _ _ _ (held_stands (used c.args.id datapath.held) before c.self.invariant)) c.self.invariant

pub returns-clause-ok : goal.returns-clause-ok
returns-clause-ok g c =
    rw (← c.self.view_is)
    (IfOk-weaker c.start_held.result _ _
    (λ effects runs. begun_is c.args.id _ c.in-Some.held.now _ c.heard_open.result _ c.ingress-ingress.result _ effects.items _
    (sym c.in-Some.ensures) c.heard_open.ensures (c.as_slice.ensures ∙ (c.in_ok-frame.ensures ∙ c.frame-2.ensures.frame)) c.ingress-ingress.ensures runs refl refl)
    c.start_held.ensures.ok)
