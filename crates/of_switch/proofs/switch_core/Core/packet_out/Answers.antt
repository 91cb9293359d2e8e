use Rattle.std.proofs.Common.{◌≡◌, refl}
use Rattle.of_datapath.{specs.Commands.without_packet, specs.Numbers.forwarding_of, specs.Applying.without_used, proofs.StandingLemmas.held_stands, proofs.StandingLemmas.through_stands}
use Rattle.of_switch.proofs.{HeldHandling.out_is, StandingSteps.called_stands, switch_core.Core.packet_out.Goals.in-Buffered, switch_core.Core.packet_out.Goals.in-Frame}
use Rattle.of_switch.proofs.switch_core.Core.packet_out.Goals as goal

pub invariant_of-self-2 : goal.invariant_of-self-2
invariant_of-self-2 g c =
    let datapath = c.self.inside.datapath in
    let before = forwarding_of datapath in
    called_stands c.packet_out.result _ _ _ _ _ _ _ _ _ c.packet_out.ensures.ok c.packet_out.ensures.err (through_stands c.heard_open.result _ _ _ (held_stands _ before c.self.invariant)) c.self.invariant

pub returns : goal.returns
returns g c =
    let held = c.self.inside.datapath.held in
    let uses : without_used c.match-packet_out.used held ≡ without_packet c.args.packet_out.packet held =
    elim c.match-packet_out.branch [
      | in-Buffered w ↦ rw (w.used-is, w.in-Buffered.is) refl
      | in-Frame w ↦ rw (w.used-is, w.in-Frame.is) refl
    ] in
    rw (← c.self.view_is)
    (out_is c.args.packet_out _ c.match-packet_out.used c.in_ok-frame.frame _ c.heard_open.result _ _ c.in_ok-effects.effects.items _
    uses (rw (← c.self.view_is) at c.in_ok-frame.ensures.frame) c.heard_open.ensures c.as_slice.ensures c.as_slice-actions.ensures.actions c.if-any_to_absent_group.ensures c.in_ok-effects.ensures.ok refl refl)
