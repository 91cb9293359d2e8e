use Rattle.std.proofs.Common.{◌∙◌, ap, inr, sym}
use Rattle.of_require.{specs.Decisions.decides, proofs.PacketLemmas.ingress_fits}
use Rattle.of_require.proofs.packets.seek_in_set.Goals as goal

pub returns-then-not-decides : goal.returns-then-not-decides
returns-then-not-decides g c =
    let found = rw c.in-Frame.is at c.in_ok-find.ensures in
    let items = rw c.deref.ensures.value at c.in_ok-items-in-Frame.ensures.items in
    inr (c.in-Frame.frame.items, c.in-Frame.in_port, record { frame_is = found.0; short = found.1; within = found.2; fits = ingress_fits c.in-Frame.in_port found.3 }, ap (decides c.args.requirement.now c.in-Frame.in_port c.args.lines.now) (sym items ∙ sym c.deref-in-Frame.ensures) ∙ (sym c.decides.ensures ∙ c.if-not-decides.true))
