use Rattle.std.proofs.Common.{◌∙◌}
use Rattle.of_ovs_text.proofs.ReadingLemmas.{answered}
use Rattle.of_ovs_text.proofs.lines.is_read_again.Goals as goal

pub returns-in-Ok : goal.returns-in-Ok
returns-in-Ok c =
    answered c.args.text.now c.args.config.now c.in-Ok.read.text.items c.deref.result.now c.in-Ok.read.faults.items c.in-Ok.read.refused.items c.in-Ok.read.changed c.is_text.result
    c.in-Ok.ensures.found (c.deref.ensures.value ∙ c.in_ok-flow_text.ensures) c.is_text.ensures
