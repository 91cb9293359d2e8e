use Rattle.of_datapath.{specs.Numbers.forwarding_of, specs.Datapath.framed, proofs.StandingLemmas.framed_stands}
use Rattle.of_switch.proofs.StandingSteps.{called_stands}
use Rattle.of_switch.proofs.switch_core.Core.frame.Goals as goal

pub invariant_of-self : goal.invariant_of-self
invariant_of-self g c =
    let f = c.self.inside.datapath in
    let before = forwarding_of f in
    called_stands c.frame.result (framed c.args.heard c.args.number c.args.bytes.now before) _ _ _ _ _ _ _ _ c.frame.ensures.ok c.frame.ensures.err (framed_stands c.args.heard c.args.number c.args.bytes.now before c.self.invariant) c.self.invariant
