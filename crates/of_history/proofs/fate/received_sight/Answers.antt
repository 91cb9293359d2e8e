use Rattle.std.proofs.Common.{◌∙◌}
use Rattle.of_history.proofs.WayLemmas.{way_of_fate}
use Rattle.of_history.proofs.fate.received_sight.Goals as goal

pub returns-then-is_of_way-clause-same : goal.returns-then-is_of_way-clause-same
returns-then-is_of_way-clause-same g c =
    let is = rw (c.deref.ensures.value, c.deref-2.ensures) at (c.is_of_way.ensures c.if-is_of_way.true) in
    is ∙ way_of_fate c.args.switch.now.core.forwarding c.args.port c.args.frame.now c.in_ok-run.run'.steps.items c.in_ok-run.run'.items.items c.in_ok-run.ensures.steps c.in_ok-run.ensures.items
